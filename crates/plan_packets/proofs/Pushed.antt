-- A pair written behind the first n pairs of a list.
use mathlib.Core.Path.{◌≡◌, sym, ap, ap₂, ◌∙◌}
use mathlib.Core.List.{List, [], ◌∷◌, ◌++◌}
use Prim.Native.Nat.{ℕ, ◌+◌, ◌*◌, ◌-◌, ◌≤◌}
use native.Mathlib.Omega.{arith}
use lib.ListN.{length, set, drop, length-append}
use lib.Seq.{drop-drop}
use Rattle.ranges.specs.Range.{range}
use Rattle.ranges.specs.Store.{counted}
use Rattle.ranges.proofs.Flat.{length-counted}
use Rattle.ranges.proofs.Stored.{stored_push, counted-stored, drop-stored}

-- what stands past a place stands past a later one
pub drop-later : (xs ys : List ℕ) (a b : ℕ) → a ≤ b → drop a xs ≡ drop a ys → drop b xs ≡ drop b ys
drop-later xs ys a b h e =
    let k : a + (b - a) ≡ b = omega arith in
    rw (← k) (sym (drop-drop (b - a) a xs) ∙ rw e (drop-drop (b - a) a ys))

-- the pair is counted with them, and nothing changes behind it
pub pushed : (xs ys : List ℕ) (n s e : ℕ) → 2 * n + 2 ≤ length xs → ys ≡ set (set xs (2 * n) s) (2 * n + 1) e
    → (counted ys (n + 1) ≡ counted xs n ++ (range s e ∷ [])) × (drop (2 * (n + 1)) ys ≡ drop (2 * (n + 1)) xs)
pushed xs ys n s e h w =
    let rs = counted xs n ++ (range s e ∷ []) in
    let a = length-append (counted xs n) (range s e ∷ []) in
    let l = length-counted xs n (omega arith) in
    let many : length rs ≡ n + 1 = omega arith in
    let t = w ∙ stored_push xs n s e h in (
      ap₂ counted t (sym many) ∙ counted-stored rs n xs,
      ap (drop (2 * (n + 1))) t ∙ drop-stored (2 * (n + 1)) rs n xs (omega (arith, many)) (omega arith),
    )
