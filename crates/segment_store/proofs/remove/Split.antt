-- A removal leaves one range more exactly where it splits one.
use mathlib.Core.Path.{◌≡◌, refl, ap}
use mathlib.Core.Bool.{Bool, true, false}
use mathlib.Core.List.Memᴰ
use mathlib.Core.List.{List, [], ◌∷◌, Memᴰ}
use mathlib.Core.Logic.{◌⊎◌, inl, inr}
use Prim.Native.Nat.{ℕ, suc, ◌≤◌, ◌<◌, min, max}
use native.Mathlib.Omega.{arith}
use native.Mathlib.Decide.{dec_lt}
use lib.ListN.{length, length-append}
use lib.Dec.{ltb}
use borrow.Author.Tests.{ltb-true}
use Rattle.ranges.specs.Range.{Range, Above}
use Rattle.ranges.specs.Without.{pieces, without}
use Rattle.ranges.proofs.Without.{part-one, pieces-before, without-behind}
use Rattle.segment_store.specs.Remove.{Splits}

module _ (a b : ℕ) where
  -- two parts are left of a range only where it starts below a and ends above b
  pieces-two : (r : Range) → 2 ≤ length (pieces a b r) → (r.start < a) × (b < r.end)
  pieces-two r h = go (ltb r.start (min r.end a)) refl (ltb (max r.start b) r.end) refl
    where
      go : (t : Bool) → ltb r.start (min r.end a) ≡ t → (u : Bool) → ltb (max r.start b) r.end ≡ u → (r.start < a) × (b < r.end)
      go true f true g =
          let k : r.start < min r.end a = ltb-true _ _ f in
          let l : max r.start b < r.end = ltb-true _ _ g in
          (omega arith, omega arith)
      go true f false g = absurd (omega (arith, rw (f, g) at h))
      go false f true g = absurd (omega (arith, rw (f, g) at h))
      go false f false g = absurd (omega (arith, rw (f, g) at h))

  pub split_of : (rs : List Range) → length rs < length (without a b rs) → Splits a b rs
  split_of [] h = absurd (omega arith)
  split_of (r ∷ rs) h = go (dec_lt (length rs) (length (without a b rs))) (split_of rs)
    where
      go : Dec (length rs < length (without a b rs)) → (length rs < length (without a b rs) → Splits a b rs) → Splits a b (r ∷ rs)
      go (yes k) i = let w = i k in (w.0, Memᴰ.tail w.1, w.2, w.3)
      go (no k) i =
          let l = length-append (pieces a b r) (without a b rs) in
          let w = pieces-two r (omega arith) in
          (r, Memᴰ.head refl, w.0, w.1)

module _ (a b : ℕ) (lt : a < b) where
  split-here : (r : Range) (rs : List Range) → Above (suc r.end) rs → r.start < a → b < r.end → length (without a b (r ∷ rs)) ≡ suc (suc (length rs))
  split-here r rs s h k =
      rw (part-one r.start (min r.end a) (omega arith), part-one (max r.start b) r.end (omega arith))
      (ap (λ (l : List Range). suc (suc (length l))) (without-behind a b lt (suc r.end) rs s (omega arith)))

  split_at : (d : ℕ) (rs : List Range) → Above d rs → (q : Range) → Memᴰ q rs → q.start < a → b < q.end
      → (d ≤ q.start) × (length (without a b rs) ≡ suc (length rs))
  split_at d [] s q m h k = absurd (Memᴰ.not-nil m)
  split_at d (r ∷ rs) s q m h k = go (Memᴰ.cases_cons m) (λ n. split_at (suc r.end) rs s.2 q n h k)
    where
      go : (q ≡ r) ⊎ Memᴰ q rs → (Memᴰ q rs → (suc r.end ≤ q.start) × (length (without a b rs) ≡ suc (length rs)))
          → (d ≤ q.start) × (length (without a b (r ∷ rs)) ≡ suc (suc (length rs)))
      go (inl e) i = (rw e s.0, split-here r rs s.2 (rw e at h) (rw e at k))
      go (inr n) i =
          let w = i n in
          let u = w.0 in
          (omega arith, rw (pieces-before a b lt r s.1 (omega arith)) (ap suc w.1))

  pub split-length : (rs : List Range) → Above 0 rs → Splits a b rs → length (without a b rs) ≡ suc (length rs)
  split-length rs s w = (split_at 0 rs s w.0 w.1 w.2 w.3).1
