-- Which PDU a failing test blames: the first at fault; where none is at fault, their number. And what being at fault says of offsets.
use mathlib.Core.Path.{◌≡◌, refl, sym}
use mathlib.Core.Bool.{Bool, true, false, ◌||◌, true≢false}
use mathlib.Core.List.{List, [], ◌∷◌, ◌++◌}
use mathlib.Core.Logic.{◌⊎◌, inl, inr, ⊎_elim}
use Prim.Native.Nat.{ℕ, zero, suc, ◌≤◌, ◌<◌}
use native.Mathlib.Omega.{arith}
use lib.ListN.{length}
use lib.Dec.{ltb}
use borrow.Author.Tests.{ltb-true, ltb-false}
use Rattle.ranges.specs.Range.{Range, In, Covers, range_at}
use Rattle.ranges.proofs.Covering.{covers_append}
use Rattle.holding.specs.Count.{is_covered}
use Rattle.holding.proofs.Counting.{covered-set}
use Rattle.planning.specs.Plan.{Plan, requests_of, asked_before}
use Rattle.planning.specs.Tests.{first_below, some_offset, asks_again, is_repeat, is_unwanted}
use Rattle.planning.proofs.Firsts.{first-before, first-at}
use Rattle.planning.proofs.Offsets.{an_offset, some_more}

-- k is the first of n PDUs at fault
pub record FirstAt (fault : ℕ → Bool) (n k : ℕ) : Type 0 where
  pub one : k < n
  pub at : fault k ≡ true
  pub before : (j : ℕ) → j < k → fault j ≡ false

-- none of n is at fault, k is n, and something lacks
pub record NoneAt (fault : ℕ → Bool) (lacks : Bool) (n k : ℕ) : Type 0 where
  pub past : n ≤ k
  pub none : (j : ℕ) → j < n → fault j ≡ false
  pub left : lacks ≡ true

-- a test that fails blames the PDU that 26 names
pub blames : (n : ℕ) (fault : ℕ → Bool) (lacks : Bool) → (ltb (first_below fault n) n || lacks) ≡ true
    → FirstAt fault n (first_below fault n) ⊎ NoneAt fault lacks n (first_below fault n)
blames n fault lacks e = go (ltb (first_below fault n) n) refl
  where
    go : (u : Bool) → ltb (first_below fault n) n ≡ u → FirstAt fault n (first_below fault n) ⊎ NoneAt fault lacks n (first_below fault n)
    go true f =
        let h : first_below fault n < n = ltb-true _ _ f in
        inl (record { one = h; at = first-at fault n h; before = λ j l. first-before fault n j l })
    go false f =
        let h : n ≤ first_below fault n = ltb-false _ _ f in
        inr (record { past = h; none = λ j l. first-before fault n j (omega arith); left = rw f at e })

-- a request asks for offset x, which was asked before: in qs, or by an earlier request
abbrev pub Again : List Range → List Range → Type 0
Again qs rs = (x : ℕ) × (i : ℕ) × (i < length rs) × In x (range_at rs i) × (Covers x qs ⊎ ((j : ℕ) × (j < i) × In x (range_at rs j)))

pub asked_again : (qs rs : List Range) → asks_again qs rs ≡ true → Again qs rs
asked_again qs [] e = absurd (true≢false (sym e))
asked_again qs (r ∷ rs) e = go (some_offset (is_covered qs) r) refl (asked_again (qs ++ (r ∷ [])) rs)
  where
    earlier : (x i : ℕ) → Covers x (qs ++ (r ∷ [])) ⊎ ((j : ℕ) × (j < i) × In x (range_at rs j))
        → Covers x qs ⊎ ((j : ℕ) × (j < suc i) × In x (range_at (r ∷ rs) j))
    earlier x i (inl c) = ⊎_elim inl (λ h. ⊎_elim (λ g. inr (zero, omega arith, g)) absurd h) (covers_append x qs (r ∷ []) c)
    earlier x i (inr w) = inr (suc w.0, omega (arith, w.1), w.2)

    go : (u : Bool) → some_offset (is_covered qs) r ≡ u → (asks_again (qs ++ (r ∷ [])) rs ≡ true → Again (qs ++ (r ∷ [])) rs) → Again qs (r ∷ rs)
    go true f i = let w = an_offset (is_covered qs) r f in (w.0, zero, omega arith, w.1, inl ((covered-set qs w.0).0 w.2))
    go false f i = let w = i (rw f at e) in (w.0, suc w.1, omega (arith, w.2), w.3, earlier w.0 w.1 w.4)

-- PDU k repeats an offset of an earlier PDU, or of itself
pub repeat_says : (p : Plan) (k : ℕ) → is_repeat p k ≡ true → Again (asked_before p k) (requests_of p k)
repeat_says p k e = asked_again (asked_before p k) (requests_of p k) e

-- PDU k asks for an offset that is not missing
pub unwanted_says : (p : Plan) (ms : List Range) (k : ℕ) → is_unwanted p ms k ≡ true → (x : ℕ) × Covers x (requests_of p k) × (Covers x ms → ⊥)
unwanted_says p ms k e = some_more ms (requests_of p k) e
