-- The range inside which (a, b) lies: on a coalesced list there is one at most, and its place is found by the test.
use mathlib.Core.Path.{◌≡◌, refl, sym, ap, ◌∙◌}
use mathlib.Core.Bool.{Bool, true, false, true≢false}
use mathlib.Core.List.Memᴰ
use mathlib.Core.List.{List, [], ◌∷◌, Memᴰ}
use mathlib.Core.Logic.{◌⊎◌, inl, inr}
use Prim.Native.Nat.{ℕ, zero, suc, ◌≤◌, ◌<◌}
use native.Mathlib.Omega.{arith}
use lib.ListN.{length}
use lib.Dec.{leb}
use borrow.Author.Tests.{lt-leb}
use Rattle.ranges.specs.Range.{Range, Above, Coalesced, some, inside, place, range_at}
use Rattle.ranges.proofs.Test.{and_none}
use Rattle.ranges.proofs.Some.{inside_true}
use Rattle.ranges.proofs.Halving.{above_at}
use Rattle.ranges.proofs.Without.{place_at}

-- where some range passes, the place is that of one that does
some-place : (t : Range → Bool) (rs : List Range) → some t rs ≡ true → place t rs < length rs
some-place t [] e = absurd (true≢false (sym e))
some-place t (r ∷ rs) e = go (t r) refl (some-place t rs)
  where
    go : (u : Bool) → t r ≡ u → (some t rs ≡ true → place t rs < length rs) → place t (r ∷ rs) < suc (length rs)
    go true f i = rw f (omega arith)
    go false f i = let k = i (rw f at e) in rw f (omega arith)

-- a member stands at some place
pub member_at : (r : Range) (rs : List Range) → Memᴰ r rs → (i : ℕ) × (i < length rs) × (range_at rs i ≡ r)
member_at r [] m = absurd (Memᴰ.not-nil m)
member_at r (q ∷ rs) m = go (Memᴰ.cases_cons m) (member_at r rs)
  where
    go : (r ≡ q) ⊎ Memᴰ r rs → (Memᴰ r rs → (i : ℕ) × (i < length rs) × (range_at rs i ≡ r)) → (i : ℕ) × (i < suc (length rs)) × (range_at (q ∷ rs) i ≡ r)
    go (inl e) i = (zero, omega arith, sym e)
    go (inr n) i = let w = i n in (suc w.0, omega (arith, w.1), w.2)

-- and what stands at a place is a member
pub at_member : (rs : List Range) (i : ℕ) → i < length rs → Memᴰ (range_at rs i) rs
at_member [] i h = absurd (omega arith)
at_member (r ∷ rs) zero h = Memᴰ.head refl
at_member (r ∷ rs) (suc i) h = Memᴰ.tail (at_member rs i (omega arith))

module _ (a b : ℕ) (lt : a < b) where
  -- (a, b) lies inside the range at place i
  abbrev pub Within : ℕ → List Range → Type 0
  Within i rs = (i < length rs) × ((range_at rs i).start ≤ a) × (b ≤ (range_at rs i).end)

  pub holder : (rs : List Range) → some (inside a b) rs ≡ true → Within (place (inside a b) rs) rs
  holder rs e =
      let k = some-place (inside a b) rs e in
      let w = (inside_true a b (range_at rs (place (inside a b) rs))).0 (place_at (inside a b) rs k) in
      (k, w.0, w.1)

  later : (d i : ℕ) (rs : List Range) → Above d rs → Within i rs → i ≡ place (inside a b) rs
  later d i [] s h = absurd (omega (arith, h.0))
  later d zero (r ∷ rs) s h = rw ((inside_true a b r).1 (h.1, h.2))
  later d (suc i) (r ∷ rs) s h =
      let k = above_at (suc r.end) rs i s.2 (omega (arith, h.0)) in
      rw (lt-leb b r.end (omega (arith, h.1, k.0)), and_none (leb r.start a)) (ap suc (later (suc r.end) i rs s.2 (omega (arith, h.0), h.1, h.2)))

  -- so it lies inside no other
  pub one-holder : (i : ℕ) (rs : List Range) → Coalesced rs → Within i rs → i ≡ place (inside a b) rs
  one-holder i rs s h = later 0 i rs s h
