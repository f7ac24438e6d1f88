-- What `remove_coalesced` answers and leaves at each of its ends.
use Rattle.std.specs.Prelude.{Some, None, ◌⊎◌}
use Rattle.std.proofs.Common.{inl, inr}
use Rattle.ranges.proofs.Test.{and_none}
use mathlib.Core.Path.{◌≡◌, sym, ap, ◌∙◌}
use mathlib.Core.Bool.{true, false}
use mathlib.Core.List.{List, [], ◌∷◌}
use Prim.Native.Nat.{ℕ, ◌+◌, ◌*◌, ◌≤◌, ◌<◌}
use native.Mathlib.Omega.{arith}
use lib.ListN.{length, get_or, get_or-eq_default}
use lib.Dec.{leb, leb-zero}
use borrow.Author.Tests.{lt-ltb, le-ltb, le-leb, lt-leb, ltb-true, eq-eqb, ne_eqb}
use Rattle.ranges.specs.Range.{range, Coalesced, some, inside, shares}
use Rattle.ranges.specs.Store.{counted, capacity, stored}
use Rattle.ranges.specs.Without.{without}
use Rattle.outcomes.specs.Outcome.{accepted}
use Rattle.outcomes.specs.Refusal.{refusing}
use Rattle.outcomes.specs.declared.Refusal.TheVariants as refusal
use Rattle.ranges.specs.Inner.Cut.{past, first, behind, gone_of, Took, cut_answer, cut_list}
use Rattle.ranges.specs.declared.inner.cut.Part.{Part}
use Rattle.ranges.specs.declared.inner.cut.Part.TheVariants as part
use Rattle.ranges.proofs.Flat.{at, get_or-counted, length-counted}
use Rattle.ranges.proofs.Stored.{stored_same}
use Rattle.ranges.proofs.Without.{without-none, place_at}
use Rattle.ranges.proofs.Cutting.{cut_told, full_told}
use Rattle.ranges.proofs.Gone.{gone_took}
use Rattle.ranges.proofs.Holder.{one-holder}
use Rattle.segment_store.specs.Remove.{part_of, index_of, remove_from}
use Rattle.removing.specs.Inner.{part_number}
use Rattle.removing.proofs.remove.Found.{found_inside, found_shares, found_behind}

part_numbered : (p : Part) (a b s e : ℕ) → s ≤ a → b ≤ e → Took p a b s e → part_number p ≡ part_of a b (range s e)
part_numbered part.Whole a b s e u v h = rw (eq-eqb a s (omega (arith, h.0)), eq-eqb b e (omega (arith, h.1)))
part_numbered part.Left a b s e u v h = rw (eq-eqb a s (omega (arith, h.0)), ne_eqb b e (λ k. omega (arith, h.1)))
part_numbered part.Right a b s e u v h = rw (ne_eqb a s (λ k. omega (arith, h.0)), eq-eqb b e (omega (arith, h.1)))
part_numbered part.Split a b s e u v h = rw (ne_eqb a s (λ k. omega (arith, h.0)), ne_eqb b e (λ k. omega (arith, h.1)))

module _ (xs : List ℕ) (n a b i : ℕ) (h : 2 * n ≤ length xs) (lt : a < b) (s : Coalesced (counted xs n)) (e : i ≡ first a (counted xs n)) where
  here : i < n → get_or (counted xs n) (first a (counted xs n)) (range 0 0) ≡ at xs i
  here k = rw (← e) (get_or-counted xs n i k h)

  here-inside : i < n → some (inside a b) (counted xs n) ≡ inside a b (at xs i)
  here-inside k = found_inside a b lt 0 (counted xs n) s ∙ ap (inside a b) (here k)

  here-shares : i < n → some (shares a b) (counted xs n) ≡ shares a b (at xs i)
  here-shares k = found_shares a b lt 0 (counted xs n) s ∙ ap (shares a b) (here k)

  ends : i < n → a < get_or xs (2 * i + 1) 0
  ends k =
      let l = length-counted xs n h in
      let p : past a (at xs i) ≡ true = ap (past a) (sym (here k)) ∙ place_at (past a) (counted xs n) (rw (← e) (omega arith)) in
      ltb-true _ _ p

  -- sharing no offset is none, and nothing leaves
  abbrev Nothing : Type 0
  Nothing = (accepted (0 ∷ 0 ∷ n ∷ []) ≡ remove_from (capacity xs) (counted xs n) a b) × (xs ≡ stored (without a b (counted xs n)) n xs)

  not-stored : some (inside a b) (counted xs n) ≡ false → some (shares a b) (counted xs n) ≡ false → Nothing
  not-stored u v = (rw (u, v, length-counted xs n h), sym (rw (without-none a b lt 0 (counted xs n) s v) (stored_same xs n h)))

  pub past_all : i ≡ n → Nothing
  past_all k =
      let l = length-counted xs n h in
      let d : get_or (counted xs n) (first a (counted xs n)) (range 0 0) ≡ range 0 0 = rw (← e) (get_or-eq_default (counted xs n) (range 0 0) {n = i} (omega arith)) in
      not-stored
      (found_inside a b lt 0 (counted xs n) s ∙ ap (inside a b) d ∙ rw (leb-zero a, lt-leb b 0 (omega arith)))
      (found_shares a b lt 0 (counted xs n) s ∙ ap (shares a b) d ∙ rw (le-ltb a 0 (omega arith), lt-ltb 0 b (omega arith)))

  pub before_it : i < n → b ≤ get_or xs (2 * i) 0 → Nothing
  before_it k u =
      not-stored
      (here-inside k ∙ rw (lt-leb (get_or xs (2 * i) 0) a (omega arith)))
      (here-shares k ∙ rw (le-ltb (get_or xs (2 * i) 0) b u))

  -- sharing an offset but inside none is 5
  outside : (a < get_or xs (2 * i) 0) ⊎ (get_or xs (2 * i + 1) 0 < b) → inside a b (at xs i) ≡ false
  outside (inl u) = rw (lt-leb (get_or xs (2 * i) 0) a u)
  outside (inr u) = rw (lt-leb b (get_or xs (2 * i + 1) 0) u, and_none (leb (get_or xs (2 * i) 0) a))

  pub boundary : i < n → get_or xs (2 * i) 0 < b → (a < get_or xs (2 * i) 0) ⊎ (get_or xs (2 * i + 1) 0 < b)
      → refusing (refusal.InvalidSegmentBoundary a b) ≡ remove_from (capacity xs) (counted xs n) a b
  boundary k u v =
      let w : some (shares a b) (counted xs n) ≡ true = here-shares k ∙ rw (lt-ltb (get_or xs (2 * i) 0) b u, lt-ltb a (get_or xs (2 * i + 1) 0) (ends k)) in
      rw (here-inside k ∙ outside v, w)

  -- inside, where the ranges that share an offset are just the one
  pub behind_it : i < n → get_or xs (2 * i) 0 < b → b ≤ get_or xs (2 * i + 1) 0 → i + 1 ≡ behind i b (counted xs n)
  behind_it k u v =
      let l = length-counted xs n h in
      let g = get_or-counted xs n i k h in
      found_behind a b lt i 0 (counted xs n) s (omega arith) (rw g u) (rw g v)

  inside-it : i < n → get_or xs (2 * i) 0 ≤ a → b ≤ get_or xs (2 * i + 1) 0 → some (inside a b) (counted xs n) ≡ true
  inside-it k u v = here-inside k ∙ rw (le-leb (get_or xs (2 * i) 0) a u, le-leb b (get_or xs (2 * i + 1) 0) v)

  -- the place found is the index, and the part that the cut took is the one that the numbers say
  index : i < n → get_or xs (2 * i) 0 ≤ a → b ≤ get_or xs (2 * i + 1) 0 → index_of a b (counted xs n) ≡ i
  index k u v =
      let l = length-counted xs n h in
      let g = get_or-counted xs n i k h in
      sym (one-holder a b lt i (counted xs n) s (omega arith, rw g u, rw g v))

  pub inside-room : i < n → get_or xs (2 * i) 0 ≤ a → b ≤ get_or xs (2 * i + 1) 0 → (p : Part) (m : ℕ) (l : List ℕ)
      → Some m ≡ cut_answer (capacity xs) (without a b (counted xs n)) → p ≡ gone_of a b (get_or xs (2 * i) 0) (get_or xs (2 * i + 1) 0)
      → l ≡ cut_list (capacity xs) (without a b (counted xs n)) n xs
      → (accepted (part_number p ∷ i ∷ m ∷ []) ≡ remove_from (capacity xs) (counted xs n) a b) × (l ≡ stored (without a b (counted xs n)) n xs)
  inside-room k u v p m l f q g =
      let t = cut_told (capacity xs) m (without a b (counted xs n)) f in
      let w : part_number p ≡ part_of a b (at xs i) = part_numbered p a b (get_or xs (2 * i) 0) (get_or xs (2 * i + 1) 0) u v ((gone_took p a b _ _).0 q) in
      (rw (inside-it k u v, t.0, t.1, index k u v, get_or-counted xs n i k h, w), g ∙ rw t.0)

  pub inside_full : i < n → get_or xs (2 * i) 0 ≤ a → b ≤ get_or xs (2 * i + 1) 0 → (l : List ℕ)
      → None ≡ cut_answer (capacity xs) (without a b (counted xs n)) → l ≡ cut_list (capacity xs) (without a b (counted xs n)) n xs
      → (refusing refusal.StoreFull ≡ remove_from (capacity xs) (counted xs n) a b) × (l ≡ xs)
  inside_full k u v l f g =
      let t = full_told (capacity xs) (without a b (counted xs n)) f in
      (rw (inside-it k u v, t), g ∙ rw t)
