-- A run of ranges replaced by others: what stands before it, in it and behind it; and the numbers of some ranges in a row.
use mathlib.Core.Path.{◌≡◌, refl, sym, ap, ◌∙◌}
use mathlib.Core.List.{List, [], ◌∷◌, ◌++◌, append_assoc, append-nil}
use Prim.Native.Nat.{ℕ, zero, suc, ◌+◌, ◌*◌, ◌-◌, ◌≤◌}
use native.Mathlib.Omega.{arith}
use lib.ListN.{length, take, drop, length-append, length-drop, take-append-drop}
use lib.Seq.{take_at, drop_at, drop-drop, take-append-le, drop-append-le, drop-append-add, length-take-le, take-nil, drop-nil}
use Rattle.ranges.specs.Range.{Range}
use Rattle.ranges.specs.Store.{flat, counted}
use Rattle.ranges.specs.Inner.Moves.{replaced}
use Rattle.ranges.proofs.Flat.{twice_suc, flat-counted}

-- a window of a list does not see what stands behind it
pub window {ℓ} : {A : Type ℓ} (a n : ℕ) (p q r : List A) → a + n ≤ length p → take n (drop a (p ++ q)) ≡ take n (drop a (p ++ r))
window {A = A} a n p q r h = inner q ∙ sym (inner r)
  where
    inner : (q : List A) → take n (drop a (p ++ q)) ≡ take n (drop a p)
    inner q =
        let d : length (drop a p) ≡ length p - a = length-drop a p in
        ap (λ (l : List A). take n l) (drop-append-le a p q (omega arith)) ∙ take-append-le n (drop a p) q (omega (arith, d))

module _ (rs qs : List Range) (at m : ℕ) (h : at + m ≤ length rs) where
  abbrev new : List Range
  new = replaced at (at + m) qs rs

  front_length : length (take at rs) ≡ at
  front_length = length-take-le at rs (omega arith)

  pub before : (b c : ℕ) → b + c ≤ at → take c (drop b new) ≡ take c (drop b rs)
  unfolding replaced
  before b c k =
      let f = front_length in
      ap (λ (l : List Range). take c (drop b l)) (append_assoc (take at rs) qs (drop (at + m) rs))
      ∙ window b c (take at rs) (qs ++ drop (at + m) rs) (drop at rs) (omega (arith, f))
      ∙ ap (λ (l : List Range). take c (drop b l)) (take-append-drop at rs)

  pub self : take (length qs) (drop at new) ≡ qs
  unfolding replaced
  self =
      ap (λ (l : List Range). take (length qs) (drop at l)) (append_assoc (take at rs) qs (drop (at + m) rs))
      ∙ ap (λ (l : List Range). take (length qs) l) (drop_at (take at rs) (qs ++ drop (at + m) rs) at front_length)
      ∙ take_at qs (drop (at + m) rs) (length qs) refl

  pub behind : (k c : ℕ) → take c (drop (at + length qs + k) new) ≡ take c (drop (at + m + k) rs)
  unfolding replaced
  behind k c =
      let f = front_length in
      let g : length (take at rs ++ qs) ≡ at + length qs = length-append (take at rs) qs ∙ omega (arith, f) in
      ap (λ (l : List Range). take c l)
      (ap (λ (j : ℕ). drop (j + k) ((take at rs ++ qs) ++ drop (at + m) rs)) (sym g)
      ∙ drop-append-add (take at rs ++ qs) (drop (at + m) rs) k
      ∙ drop-drop k (at + m) rs)

  pub new_length : length new + m ≡ length rs + length qs
  unfolding replaced
  new_length =
      let f = front_length in
      let a : length ((take at rs ++ qs) ++ drop (at + m) rs) ≡ length (take at rs ++ qs) + length (drop (at + m) rs) = length-append (take at rs ++ qs) (drop (at + m) rs) in
      let b : length (take at rs ++ qs) ≡ length (take at rs) + length qs = length-append (take at rs) qs in
      let d : length (drop (at + m) rs) ≡ length rs - (at + m) = length-drop (at + m) rs in
      omega (arith, f, a, b, d)

flat-drop : (b : ℕ) (rs : List Range) → drop (2 * b) (flat rs) ≡ flat (drop b rs)
flat-drop zero rs = refl
flat-drop (suc b) [] = drop-nil (2 * suc b)
flat-drop (suc b) (r ∷ rs) = rw twice_suc (flat-drop b rs)

flat-take : (c : ℕ) (rs : List Range) → take (2 * c) (flat rs) ≡ flat (take c rs)
flat-take zero rs = refl
flat-take (suc c) [] = take-nil (2 * suc c)
flat-take (suc c) (r ∷ rs) = rw twice_suc (ap (λ (l : List ℕ). r.start ∷ r.end ∷ l) (flat-take c rs))

-- the numbers of c ranges from place b on, of n that are counted
pub some-counted : (xs : List ℕ) (n b c : ℕ) → b + c ≤ n → 2 * n ≤ length xs → take (2 * c) (drop (2 * b) xs) ≡ flat (take c (drop b (counted xs n)))
some-counted xs n b c h k =
    let f : length (take (2 * n) xs) ≡ 2 * n = length-take-le (2 * n) xs k in
    ap (λ (l : List ℕ). take (2 * c) (drop (2 * b) l)) (sym (take-append-drop (2 * n) xs))
    ∙ window (2 * b) (2 * c) (take (2 * n) xs) (drop (2 * n) xs) [] (omega (arith, f))
    ∙ ap (λ (l : List ℕ). take (2 * c) (drop (2 * b) l)) (append-nil (take (2 * n) xs) ∙ sym (flat-counted xs n k))
    ∙ ap (λ (l : List ℕ). take (2 * c) l) (flat-drop b (counted xs n))
    ∙ flat-take c (drop b (counted xs n))
