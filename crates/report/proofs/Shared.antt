-- On a coalesced list, (a, b) shares an offset with a range exactly if it does with the first that ends above a: if that starts below b.
use mathlib.Core.Path.{◌≡◌, refl}
use mathlib.Core.Bool.{Bool, true, false, ◌&&◌, ◌||◌, not}
use mathlib.Core.List.{List, [], ◌∷◌}
use Prim.Native.Nat.{ℕ, suc, ◌≤◌, ◌<◌}
use native.Mathlib.Omega.{arith}
use lib.ListN.{length, get_or}
use lib.Dec.{leb, ltb}
use borrow.Author.Tests.{le-leb, lt-leb, le-ltb, ltb-true, ltb-false}
use Rattle.ranges.specs.Range.{Range, range, Above, Coalesced, some, shares}
use Rattle.ranges.specs.Inner.Cut.{first}
use Rattle.ranges.proofs.Test.{and_none}

-- b is at most s exactly if s is not below b
pub at-or-above : (b s : ℕ) → leb b s ≡ not (ltb s b)
at-or-above b s = go (ltb s b) refl
  where
    go : (t : Bool) → ltb s b ≡ t → leb b s ≡ not t
    go true e = lt-leb b s (ltb-true s b e)
    go false e = le-leb b s (ltb-false s b e)

-- none shares an offset where all start at b or above
none_from : (a b d : ℕ) (rs : List Range) → b ≤ d → Above d rs → some (shares a b) rs ≡ false
none_from a b d [] h s = refl
none_from a b d (r ∷ rs) h s = rw (le-ltb r.start b (omega (arith, s.0))) (none_from a b (suc r.end) rs (omega (arith, s.0, s.1)) s.2)

module _ (a b : ℕ) where
  -- no range ends above a
  pub none-past : (rs : List Range) → first a rs ≡ length rs → some (shares a b) rs ≡ false
  none-past [] e = refl
  none-past (r ∷ rs) e = go (ltb a r.end) refl (none-past rs)
    where
      go : (t : Bool) → ltb a r.end ≡ t → (first a rs ≡ length rs → some (shares a b) rs ≡ false) → some (shares a b) (r ∷ rs) ≡ false
      go true f i = absurd (omega (arith, rw f at e))
      go false f i = let k : suc (first a rs) ≡ suc (length rs) = rw f at e in rw (f, and_none (ltb r.start b)) (i (omega (arith, k)))

  -- the first that does
  first-from : (d : ℕ) (rs : List Range) → Above d rs → first a rs < length rs → some (shares a b) rs ≡ ltb (get_or rs (first a rs) (range 0 0)).start b
  first-from d [] s h = absurd (omega arith)
  first-from d (r ∷ rs) s h = go (ltb a r.end) refl (first-from (suc r.end) rs s.2)
    where
      here : (t : Bool) → ltb r.start b ≡ t → (t || some (shares a b) rs) ≡ t
      here true f = refl
      here false f = let k : b ≤ r.start = ltb-false _ _ f in none_from a b (suc r.end) rs (omega (arith, k, s.1)) s.2

      go : (t : Bool) → ltb a r.end ≡ t → (first a rs < length rs → some (shares a b) rs ≡ ltb (get_or rs (first a rs) (range 0 0)).start b)
          → some (shares a b) (r ∷ rs) ≡ ltb (get_or (r ∷ rs) (first a (r ∷ rs)) (range 0 0)).start b
      go true f i = rw f (whole (ltb r.start b) refl)
        where
          whole : (t : Bool) → ltb r.start b ≡ t → ((t && true) || some (shares a b) rs) ≡ t
          whole true g = refl
          whole false g = here false g
      go false f i = let k : suc (first a rs) < suc (length rs) = rw f at h in rw (f, and_none (ltb r.start b)) (i (omega (arith, k)))

  pub first-shares : (rs : List Range) → Coalesced rs → first a rs < length rs → some (shares a b) rs ≡ ltb (get_or rs (first a rs) (range 0 0)).start b
  first-shares rs s h = first-from 0 rs s h
