-- On a coalesced list, the first range that ends above a is the one that decides what remove answers.
use mathlib.Core.Path.{◌≡◌, refl}
use mathlib.Core.Bool.{Bool, true, false}
use mathlib.Core.List.{List, [], ◌∷◌}
use Prim.Native.Nat.{ℕ, zero, suc, ◌+◌, ◌≤◌, ◌<◌}
use native.Mathlib.Omega.{arith}
use lib.ListN.{length, get_or}
use lib.Dec.{leb, ltb, leb-zero}
use borrow.Author.Tests.{lt-ltb, le-ltb, le-leb, lt-leb, ltb-true, ltb-false}
use Rattle.ranges.specs.Range.{Range, range, Above, some, inside, shares, place}
use Rattle.ranges.specs.Inner.Cut.{past, from, first, behind}
use Rattle.ranges.proofs.Test.{or-none, and_none}

module _ (a b : ℕ) (lt : a < b) where
  -- (a, b) is inside no range that starts above a, and shares nothing with one that starts at b or above
  inside-later : (d : ℕ) (rs : List Range) → Above d rs → a < d → some (inside a b) rs ≡ false
  inside-later d [] s h = refl
  inside-later d (r ∷ rs) s h = rw (lt-leb r.start a (omega arith)) (inside-later (suc r.end) rs s.2 (omega arith))

  shares-later : (d : ℕ) (rs : List Range) → Above d rs → b ≤ d → some (shares a b) rs ≡ false
  shares-later d [] s h = refl
  shares-later d (r ∷ rs) s h = rw (le-ltb r.start b (omega arith)) (shares-later (suc r.end) rs s.2 (omega arith))

  pub found_inside : (d : ℕ) (rs : List Range) → Above d rs → some (inside a b) rs ≡ inside a b (get_or rs (first a rs) (range 0 0))
  found_inside d [] s = rw (leb-zero a, lt-leb b 0 (omega arith))
  found_inside d (r ∷ rs) s = go (past a r) refl (found_inside (suc r.end) rs s.2)
    where
      go : (t : Bool) → past a r ≡ t → some (inside a b) rs ≡ inside a b (get_or rs (first a rs) (range 0 0))
          → some (inside a b) (r ∷ rs) ≡ inside a b (get_or (r ∷ rs) (first a (r ∷ rs)) (range 0 0))
      go true e i =
          let k : a < r.end = ltb-true _ _ e in
          rw (e, inside-later (suc r.end) rs s.2 (omega arith)) (or-none (inside a b r))
      go false e i =
          let k : r.end ≤ a = ltb-false _ _ e in
          rw (e, lt-leb b r.end (omega arith), and_none (leb r.start a)) i

  pub found_shares : (d : ℕ) (rs : List Range) → Above d rs → some (shares a b) rs ≡ shares a b (get_or rs (first a rs) (range 0 0))
  found_shares d [] s = rw (le-ltb a 0 (omega arith), lt-ltb 0 b (omega arith))
  found_shares d (r ∷ rs) s = go (past a r) refl (found_shares (suc r.end) rs s.2) (ltb r.start b) refl
    where
      go : (t : Bool) → past a r ≡ t → some (shares a b) rs ≡ shares a b (get_or rs (first a rs) (range 0 0)) → (u : Bool) → ltb r.start b ≡ u
          → some (shares a b) (r ∷ rs) ≡ shares a b (get_or (r ∷ rs) (first a (r ∷ rs)) (range 0 0))
      go true e i true f = rw (e, f, e)
      go true e i false f =
          let k : b ≤ r.start = ltb-false _ _ f in
          rw (e, f) (shares-later (suc r.end) rs s.2 (omega arith))
      go false e i u f = rw (e, and_none (ltb r.start b)) i

  later-from : (d : ℕ) (rs : List Range) → Above d rs → b ≤ d → place (from b) rs ≡ 0
  later-from d [] s h = refl
  later-from d (r ∷ rs) s h = rw (le-leb b r.start (omega arith))

  -- the range behind the one that (a, b) lies inside starts at b or above
  pub found_behind : (i d : ℕ) (rs : List Range) → Above d rs → i < length rs → (get_or rs i (range 0 0)).start < b → b ≤ (get_or rs i (range 0 0)).end
      → i + 1 ≡ behind i b rs
  found_behind i d [] s h u v = absurd (omega arith)
  found_behind zero d (r ∷ rs) s h u v =
      let k = later-from (suc r.end) rs s.2 (omega arith) in
      rw (lt-leb b r.start u, k)
  found_behind (suc i) d (r ∷ rs) s h u v =
      let k = found_behind i (suc r.end) rs s.2 (omega arith) u v in
      omega arith
