-- remove takes the offsets of (a, b) out of a coalesced list (document 01, "Ranges and the store") and says what it did (document
-- 02, C-16).
use Rattle.std.specs.Prelude.{ℕ, ◌≤◌, ◌<◌, ◌≡◌, false, not, cond, length, ltb, eqb, Result}
use mathlib.Core.List.{List, [], ◌∷◌, Memᴰ}
use Rattle.ranges.specs.Range.{Range, Coalesced, some, inside, shares, is_coalesced, place, range_at}
use Rattle.ranges.specs.Without.{without}
use Rattle.ranges.specs.Store.{counted, capacity, limit_of, is_bad_store, either_above, stored}
use Rattle.outcomes.specs.Outcome.{Outcome, accepted, lent}
use Rattle.outcomes.specs.Answered.{answered}
use Rattle.outcomes.specs.Refusal.{refusing}
use Rattle.outcomes.specs.declared.Refusal.{Refusal}
use Rattle.outcomes.specs.Checks.{Check, first_of}
use Rattle.outcomes.specs.declared.Refusal.TheVariants as refusal
use Rattle.segment_store.specs.declared.Store.{Store}
use Rattle.segment_store.specs.Checks.{is_bad}
use Rattle.segment_store.specs.declared.remove.Removed.{Removed}
use Rattle.segment_store.specs.declared.remove.Removed.TheVariants as removed

-- The numbers of what remove takes out: what left, the index of its range in the list before, and the count afterwards. What left is
-- 1 for a whole range, 2 for its left part, 3 for its right part, 4 for a part that splits it, and 0 for none, which has no index: 0
-- stands there.
abbrev pub removed_values : Removed → List ℕ
removed_values (removed.Whole index count) = 1 ∷ index ∷ count ∷ []
removed_values (removed.Left index count) = 2 ∷ index ∷ count ∷ []
removed_values (removed.Right index count) = 3 ∷ index ∷ count ∷ []
removed_values (removed.Split index count) = 4 ∷ index ∷ count ∷ []
removed_values (removed.NotStored count) = 0 ∷ 0 ∷ count ∷ []

-- The number and the values of the answer.
abbrev pub remove_case : Result Removed Refusal → Outcome
remove_case = answered removed_values

-- What (a, b) takes of a range that it lies inside: all of it, the left part (a is the start), the right part (b is the end), or a
-- part that leaves something on both sides.
abbrev pub part_of : ℕ → ℕ → Range → ℕ
part_of a b r = cond (eqb a r.start) (cond (eqb b r.end) 1 2) (cond (eqb b r.end) 3 4)

-- The index of the range inside which (a, b) lies.
abbrev pub index_of : ℕ → ℕ → List Range → ℕ
index_of a b rs = place (inside a b) rs

-- What is answered where (a, b) lies inside a range: the part, the index, and the number of ranges left.
abbrev pub taken : ℕ → ℕ → List Range → Outcome
taken a b rs =
    let i = index_of a b rs in
    accepted (part_of a b (range_at rs i) ∷ i ∷ length (without a b rs) ∷ [])

-- On the coalesced list rs, with room for cap. Inside one range, exactly those offsets leave; 1 if more ranges are left than there
-- is room for, which only a split can bring about. Sharing an offset with some range but inside none is 5. Sharing no offset is none.
abbrev pub remove_from : ℕ → List Range → ℕ → ℕ → Outcome
remove_from cap rs a b =
    cond (some (inside a b) rs)
    (cond (ltb cap (length (without a b rs))) (refusing refusal.StoreFull) (taken a b rs))
    (cond (some (shares a b) rs) (refusing (refusal.InvalidSegmentBoundary a b)) (accepted (0 ∷ 0 ∷ length rs ∷ [])))

-- Checks: 10, then narrow 4 first, 2, 3, 8.
abbrev pub remove_checks : List ℕ → Store → ℕ → ℕ → List Check
remove_checks xs st a b =
    (is_bad xs st, refusal.BadStore)
    ∷ (either_above (limit_of st.width) a b, refusal.LargeFileSegmentNotSupported)
    ∷ (eqb a b, refusal.EmptySegment)
    ∷ (ltb b a, refusal.StartLargerThanEnd a b)
    ∷ (not (is_coalesced (counted xs st.count)), refusal.NotCoalesced)
    ∷ []

-- Behind them, the coalesced list decides.
abbrev pub remove_outcome : List ℕ → Store → ℕ → ℕ → Outcome
remove_outcome xs st a b = first_of (remove_checks xs st a b) (remove_from (capacity xs) (counted xs st.count) a b)

-- The list afterwards: an accepted call leaves the list without the offsets of (a, b), whether it had any of them or none.
abbrev pub remove_list : List ℕ → Store → ℕ → ℕ → List ℕ
remove_list xs st a b = lent (remove_outcome xs st a b) (stored (without a b (counted xs st.count)) st.count xs) xs

-- The checks 10, 4, 2, 3 and 8 are passed.
pub record Passes (xs : List ℕ) (st : Store) (a b : ℕ) : Type 0 where
  pub good : is_bad_store xs st.count (limit_of st.width) ≡ false
  pub a_within : a ≤ limit_of st.width
  pub b_within : b ≤ limit_of st.width
  pub ordered : a < b
  pub coalesced : Coalesced (counted xs st.count)

-- Removing (a, b) splits a range of the list: the range starts below a and ends above b.
abbrev pub Splits : ℕ → ℕ → List Range → Type 0
Splits a b rs = (r : Range) × Memᴰ r rs × (r.start < a) × (b < r.end)
