-- What the library's walks over a flat list or over its pairs say in words of ranges.
use mathlib.Core.Path.{◌≡◌, refl, sym, ap, ◌∙◌}
use mathlib.Core.Bool.{Bool, true, false, not}
use mathlib.Core.List.{List, [], ◌∷◌, map}
use Prim.Native.Nat.{ℕ, zero, suc, ◌-◌, ◌≤◌, ◌<◌}
use native.Mathlib.Numerals.{add-one}
use native.Mathlib.Omega.{arith}
use lib.Dec.{leb, ltb}
use lib.ListN.{length, get_or, take, drop, length-map}
use borrow.Author.Tests.{leb-true, leb-false, lt-ltb, le-ltb}
use Rattle.std.specs.Prelude.{◌||◌}
use Rattle.std.specs.List.{list_any, AllAdjacentBelow}
use Rattle.std.specs.List.Sorted.{IsPartitionPoint, IsNonDecreasingBy}
use Rattle.std.proofs.lemmas.List.Sorted.{IsNonDecreasingBy-from_all_adjacent}
use Rattle.std.proofs.lemmas.List.{get_or-map, take_rest, drop-map}
use Rattle.ranges.specs.Range.{Range, range, Above, place, range_at, last_end}
use Rattle.ranges.specs.Store.{any_above}
use Rattle.lists.specs.Pairs.{pair_of}

-- some number is above top
pub any-above : (top : ℕ) (xs : List ℕ) → list_any (λ x. ltb top x) xs ≡ any_above top xs
any-above top [] = refl
any-above top (x ∷ xs) = ap (λ (b : Bool). ltb top x || b) (any-above top xs)

-- the place of the first range that passes
place-is : (t : Range → Bool) (rs : List Range) (i : ℕ) → i ≤ length rs → ((k : ℕ) → k < i → t (range_at rs k) ≡ false) → (i < length rs → t (range_at rs i) ≡ true) → i ≡ place t rs
place-is t [] i h b f = omega arith
place-is t (r ∷ rs) zero h b f = rw (f (omega arith)) refl
place-is t (r ∷ rs) (suc i) h b f = rw (b 0 (omega arith)) (ap suc (place-is t rs i (omega arith) (λ k l. b (suc k) (omega arith)) (λ l. f (omega arith))))

-- where the pairs part is the place of the first range that does not pass p
pub parted : (p : List ℕ → Bool) (t : Range → Bool) (rs : List Range) (i : ℕ) → ((r : Range) → t r ≡ not (p (pair_of r))) → i ≤ length rs
    → IsPartitionPoint (λ y. p y ≡ true) (λ y. p y ≡ false) (map pair_of rs) i → i ≡ place t rs
parted p t rs i e h w = place-is t rs i h
    (λ k l. at k (omega arith) ∙ ap not (w.0 k (pair_of (range 0 0)) (omega arith) l))
    (λ l. at i l ∙ ap not (w.1 i (pair_of (range 0 0)) (omega arith) (rw (length-map rs pair_of) l)))
  where
    at : (k : ℕ) → k < length rs → t (range_at rs k) ≡ not (p (get_or (map pair_of rs) k (pair_of (range 0 0))))
    at k l = e (range_at rs k) ∙ ap (λ (q : List ℕ). not (p q)) (sym (get_or-map pair_of rs k (range 0 0) (pair_of (range 0 0)) l))

-- a number of a pair that ascends from each range to the next
pub rises : (n : List ℕ → ℕ) → ((r q : Range) → r.start < r.end → r.end < q.start → q.start < q.end → n (pair_of r) ≤ n (pair_of q))
    → (b : ℕ) (rs : List Range) → Above b rs → AllAdjacentBelow (λ x y. n x ≤ n y) (map pair_of rs) (length (map pair_of rs))
rises n f b [] a k d h = absurd (omega arith)
rises n f b (r ∷ []) a k d h = absurd (omega arith)
rises n f b (r ∷ q ∷ rs) a zero d h = f r q a.1 (omega (arith, a.2.0)) a.2.1
rises n f b (r ∷ q ∷ rs) a (suc k) d h = rw add-one (rw add-one at (rises n f (suc r.end) (q ∷ rs) a.2 k d (omega arith)))

-- the end of the last pair
pub last-pair : (rs : List Range) → 0 < length rs → get_or (get_or (map pair_of rs) (length (map pair_of rs) - 1) []) 1 0 ≡ last_end rs
last-pair [] h = absurd (omega arith)
last-pair (r ∷ []) h = refl
last-pair (r ∷ q ∷ rs) h =
    let e : length (map pair_of (r ∷ q ∷ rs)) - 1 ≡ suc (length (map pair_of (q ∷ rs)) - 1) = omega arith in
    rw e (last-pair (q ∷ rs) (omega arith))

pub ends_ascend : (b : ℕ) (rs : List Range) → Above b rs → IsNonDecreasingBy (λ p. get_or p 1 0) (map pair_of rs)
ends_ascend b rs a = IsNonDecreasingBy-from_all_adjacent (λ p. get_or p 1 0) (map pair_of rs) (rises (λ p. get_or p 1 0) (λ r q s t u. omega arith) b rs a)

pub starts_ascend : (b : ℕ) (rs : List Range) → Above b rs → IsNonDecreasingBy (λ p. get_or p 0 0) (map pair_of rs)
starts_ascend b rs a = IsNonDecreasingBy-from_all_adjacent (λ p. get_or p 0 0) (map pair_of rs) (rises (λ p. get_or p 0 0) (λ r q s t u. omega arith) b rs a)

pub not_leb : (a b : ℕ) → ltb b a ≡ not (leb a b)
not_leb a b = go (leb a b) refl
  where
    go : (t : Bool) → leb a b ≡ t → ltb b a ≡ not t
    go true e = le-ltb b a (leb-true a b e)
    go false e = lt-ltb b a (leb-false a b e)

-- the pairs from place i on
pub pairs-behind : (rs : List Range) (i : ℕ) (ps : List (List ℕ)) → ps ≡ map pair_of rs → take (length ps - i) (drop i ps) ≡ map pair_of (drop i rs)
pairs-behind rs i ps e = take_rest ps i ∙ rw e (drop-map pair_of i rs)
