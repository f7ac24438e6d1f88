-- add appends, without looking for overlap (document 01, "Ranges and the store").
use Rattle.std.specs.Prelude.{ℕ, ◌+◌, ◌≤◌, ◌<◌, ◌≡◌, false, List, [], ◌∷◌, ◌++◌, ltb, eqb, Result}
use Rattle.ranges.specs.Range.{range}
use Rattle.ranges.specs.Store.{counted, capacity, limit_of, is_bad_store, either_above, stored}
use Rattle.outcomes.specs.Outcome.{Outcome, accepted, lent}
use Rattle.outcomes.specs.Answered.{answered, itself}
use Rattle.outcomes.specs.Checks.{Check, first_of}
use Rattle.outcomes.specs.declared.Refusal.TheVariants as refusal
use Rattle.outcomes.specs.declared.Refusal.{Refusal}
use Rattle.segment_store.specs.declared.Store.{Store}
use Rattle.segment_store.specs.Checks.{is_bad}

-- The number and the values of each case of the answer; an accepted add hands back the new count.
abbrev pub add_case : Result ℕ Refusal → Outcome
add_case = answered itself

-- Checks: 10, 2, 3, 4 (narrow), 1. Full means count equals capacity.
abbrev pub add_checks : List ℕ → Store → ℕ → ℕ → List Check
add_checks xs st s e =
    (is_bad xs st, refusal.BadStore)
    ∷ (eqb s e, refusal.EmptySegment)
    ∷ (ltb e s, refusal.StartLargerThanEnd s e)
    ∷ (either_above (limit_of st.width) s e, refusal.LargeFileSegmentNotSupported)
    ∷ (eqb st.count (capacity xs), refusal.StoreFull)
    ∷ []

abbrev pub add_outcome : List ℕ → Store → ℕ → ℕ → Outcome
add_outcome xs st s e = first_of (add_checks xs st s e) (accepted ((st.count + 1) ∷ []))

-- The list afterwards: the range stands behind the counted ones.
abbrev pub add_list : List ℕ → Store → ℕ → ℕ → List ℕ
add_list xs st s e = lent (add_outcome xs st s e) (stored (counted xs st.count ++ (range s e ∷ [])) st.count xs) xs

-- What add takes: the store is not bad, the range is nonempty, both its numbers are within the width, and count is below capacity.
pub record Takes (xs : List ℕ) (st : Store) (s e : ℕ) : Type 0 where
  pub good : is_bad_store xs st.count (limit_of st.width) ≡ false
  pub nonempty : s < e
  pub start-within : s ≤ limit_of st.width
  pub end-within : e ≤ limit_of st.width
  pub room : st.count < capacity xs
