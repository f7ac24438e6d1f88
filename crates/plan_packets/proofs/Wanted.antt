-- On a coalesced list, all offsets of (a, b) are the list's exactly if (a, b) lies inside the first range that ends above a.
use mathlib.Core.Path.{◌≡◌, refl, sym, ap, ◌∙◌}
use mathlib.Core.Bool.{Bool, true, false, not, true≢false}
use mathlib.Core.List.{List, [], ◌∷◌}
use mathlib.Core.Logic.{◌⊎◌, inl, inr}
use Prim.Native.Nat.{ℕ, zero, suc, ◌*◌, ◌≤◌, ◌<◌}
use native.Mathlib.Omega.{arith}
use lib.ListN.{length}
use lib.Dec.{leb, ltb}
use borrow.Author.Tests.{leb-true, leb-false, ltb-true, ltb-false}
use Rattle.ranges.specs.Range.{Range, range, In, Covers, Above, Coalesced, range_at}
use Rattle.ranges.specs.Store.{counted, start_at, end_at}
use Rattle.ranges.specs.Inner.Cut.{past, first}
use Rattle.ranges.proofs.Covering.{above_covers, at_covers}
use Rattle.ranges.proofs.Flat.{length-counted, get_or-counted}
use Rattle.ranges.proofs.Halving.{above_at}
use Rattle.ranges.proofs.Without.{place_at}
use Rattle.holding.specs.Count.{is_covered}
use Rattle.holding.proofs.Counting.{covered-set}
use Rattle.planning.specs.Tests.{some_offset}
use Rattle.planning.proofs.Offsets.{no_offset, uncovered}

-- a range has an offset that is in none of qs
abbrev pub Lacks : List Range → Range → Bool
Lacks qs r = some_offset (λ x. not (is_covered qs x)) r

pub lacks_one : (qs : List Range) (r : Range) (x : ℕ) → In x r → (Covers x qs → ⊥) → Lacks qs r ≡ true
lacks_one qs r x h n = go (Lacks qs r) refl
  where
    go : (u : Bool) → Lacks qs r ≡ u → u ≡ true
    go true e = refl
    go false e = absurd (true≢false (sym (ap not (uncovered qs x n)) ∙ (no_offset (λ y. not (is_covered qs y)) r).0 e x h))

pub lacks_none : (qs : List Range) (r : Range) → ((x : ℕ) → In x r → Covers x qs) → Lacks qs r ≡ false
lacks_none qs r f = (no_offset (λ y. not (is_covered qs y)) r).1 (λ x h. ap not ((covered-set qs x).1 (f x h)))

-- a is the list's only if the first range that ends above it has it
covered-first : (a d : ℕ) (rs : List Range) → Above d rs → Covers a rs → (first a rs < length rs) × ((range_at rs (first a rs)).start ≤ a)
covered-first a d [] s h = absurd h
covered-first a d (r ∷ rs) s h = go (ltb a r.end) refl h (covered-first a (suc r.end) rs s.2)
  where
    go : (t : Bool) → ltb a r.end ≡ t → In a r ⊎ Covers a rs → (Covers a rs → (first a rs < length rs) × ((range_at rs (first a rs)).start ≤ a))
        → (first a (r ∷ rs) < suc (length rs)) × ((range_at (r ∷ rs) (first a (r ∷ rs))).start ≤ a)
    go true e (inl g) i = rw e (omega arith, g.0)
    go true e (inr g) i = let k : a < r.end = ltb-true _ _ e in let l = above_covers (suc r.end) a rs s.2 g in absurd (omega arith)
    go false e (inl g) i = let k : r.end ≤ a = ltb-false _ _ e in absurd (omega (arith, g.1))
    go false e (inr g) i = let w = i g in rw e (omega (arith, w.0), w.1)

-- no end of a range is the list's
end-uncovered : (d : ℕ) (rs : List Range) → Above d rs → (i : ℕ) → i < length rs → Covers (range_at rs i).end rs → ⊥
end-uncovered d [] s i l h = h
end-uncovered d (r ∷ rs) s zero l (inl h) = omega (arith, h.1)
end-uncovered d (r ∷ rs) s zero l (inr h) = let k = above_covers (suc r.end) r.end rs s.2 h in omega arith
end-uncovered d (r ∷ rs) s (suc i) l (inl h) = let k = above_at (suc r.end) rs i s.2 (omega arith) in omega (arith, k.0, k.1, h.1)
end-uncovered d (r ∷ rs) s (suc i) l (inr h) = end-uncovered (suc r.end) rs s.2 i (omega arith) h

module _ (a b : ℕ) (rs : List Range) (lt : a < b) (s : Coalesced rs) where
  -- no range ends above a, or the first that does starts above a
  pub lacks_past : first a rs ≡ length rs → Lacks rs (range a b) ≡ true
  lacks_past e = lacks_one rs (range a b) a (omega arith, lt) (λ h. let w = covered-first a 0 rs s h in omega (arith, w.0))

  pub lacks_start : a < (range_at rs (first a rs)).start → Lacks rs (range a b) ≡ true
  lacks_start e = lacks_one rs (range a b) a (omega arith, lt) (λ h. let w = covered-first a 0 rs s h in omega (arith, w.1))

  -- it ends below b
  pub lacks_end : first a rs < length rs → a < (range_at rs (first a rs)).end → (range_at rs (first a rs)).end < b → Lacks rs (range a b) ≡ true
  lacks_end l g e = lacks_one rs (range a b) (range_at rs (first a rs)).end (omega arith, e) (end-uncovered 0 rs s (first a rs) l)

  -- it has all
  pub lacks_not : first a rs < length rs → (range_at rs (first a rs)).start ≤ a → b ≤ (range_at rs (first a rs)).end → Lacks rs (range a b) ≡ false
  lacks_not l g e = lacks_none rs (range a b) (λ x h. at_covers x rs (first a rs) l (omega (arith, h.0), omega (arith, h.1)))

-- the first range that ends above a has (a, b), as far as its end
module _ (xs : List ℕ) (n a b : ℕ) (room : 2 * n ≤ length xs) (s : Coalesced (counted xs n)) (lt : a < b) (h : first a (counted xs n) < n) where
  abbrev rs : List Range
  rs = counted xs n

  abbrev i : ℕ
  i = first a (counted xs n)

  known : range_at (counted xs n) (first a (counted xs n)) ≡ range (start_at xs (first a (counted xs n))) (end_at xs (first a (counted xs n)))
  known = get_or-counted xs n i h room

  below : first a (counted xs n) < length (counted xs n)
  below = rw (length-counted xs n room) h

  pub by_start : a < start_at xs (first a (counted xs n)) → false ≡ not (Lacks (counted xs n) (range a b))
  by_start k = sym (ap not (lacks_start a b rs lt s (rw known k)))

  pub by_end : start_at xs (first a (counted xs n)) ≤ a → leb b (end_at xs (first a (counted xs n))) ≡ not (Lacks (counted xs n) (range a b))
  by_end k = go (leb b (end_at xs i)) refl
    where
      go : (t : Bool) → leb b (end_at xs i) ≡ t → t ≡ not (Lacks rs (range a b))
      go true e = sym (ap not (lacks_not a b rs lt s below (rw known k) (rw known (leb-true _ _ e))))
      go false e = sym (ap not (lacks_end a b rs lt s below (ltb-true _ _ (place_at (past a) rs below)) (rw known (leb-false _ _ e))))

-- or none ends above a
pub by_none : (xs : List ℕ) (n a b : ℕ) → 2 * n ≤ length xs → Coalesced (counted xs n) → a < b → n ≤ first a (counted xs n) → first a (counted xs n) ≤ n
    → false ≡ not (Lacks (counted xs n) (range a b))
by_none xs n a b room s lt h k = let l = length-counted xs n room in sym (ap not (lacks_past a b (counted xs n) lt s (omega (arith, l))))
