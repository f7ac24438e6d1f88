-- insert puts a range into a coalesced list and leaves exactly the counted ranges that coalesce would leave after an append with room
-- (document 02, C-19).
use Rattle.std.specs.Prelude.{ℕ, ◌≤◌, ◌<◌, ◌≡◌, false, not, cond, List, [], ◌∷◌, ◌++◌, length, ltb, eqb, Result}
use Rattle.ranges.specs.Range.{Range, range, Coalesced, is_coalesced}
use Rattle.ranges.specs.Store.{counted, capacity, limit_of, is_bad_store, either_above, stored}
use Rattle.outcomes.specs.Outcome.{Outcome, accepted, lent}
use Rattle.outcomes.specs.Answered.{answered, itself}
use Rattle.outcomes.specs.Refusal.{refusing}
use Rattle.outcomes.specs.Checks.{Check, first_of}
use Rattle.outcomes.specs.declared.Refusal.TheVariants as refusal
use Rattle.outcomes.specs.declared.Refusal.{Refusal}
use Rattle.segment_store.specs.declared.Store.{Store}
use Rattle.segment_store.specs.Checks.{is_bad}
use Rattle.segment_store.specs.Coalesce.{maximal_runs}

-- The number and the values of each case of the answer; an accepted insert hands back the new count.
abbrev pub insert_case : Result ℕ Refusal → Outcome
insert_case = answered itself

-- The ranges that insert leaves: the maximal runs of the counted ones and the new one behind them.
abbrev pub insert_leaves : List ℕ → Store → ℕ → ℕ → List Range
insert_leaves xs st s e = maximal_runs (counted xs st.count ++ (range s e ∷ []))

-- Checks: 10, 2, 3, 4 (narrow), 8.
abbrev pub insert_checks : List ℕ → Store → ℕ → ℕ → List Check
insert_checks xs st s e =
    (is_bad xs st, refusal.BadStore)
    ∷ (eqb s e, refusal.EmptySegment)
    ∷ (ltb e s, refusal.StartLargerThanEnd s e)
    ∷ (either_above (limit_of st.width) s e, refusal.LargeFileSegmentNotSupported)
    ∷ (not (is_coalesced (counted xs st.count)), refusal.NotCoalesced)
    ∷ []

-- Then 1 exactly if the result has more ranges than the capacity; so a full store takes a range that merges.
abbrev pub insert_into : ℕ → List Range → Outcome
insert_into cap rs = cond (ltb cap (length rs)) (refusing refusal.StoreFull) (accepted (length rs ∷ []))

abbrev pub insert_outcome : List ℕ → Store → ℕ → ℕ → Outcome
insert_outcome xs st s e = first_of (insert_checks xs st s e) (insert_into (capacity xs) (insert_leaves xs st s e))

-- The list afterwards.
abbrev pub insert_list : List ℕ → Store → ℕ → ℕ → List ℕ
insert_list xs st s e = lent (insert_outcome xs st s e) (stored (insert_leaves xs st s e) st.count xs) xs

-- The checks 10, 2, 3, 4 and 8 are passed.
pub record Enters (xs : List ℕ) (st : Store) (s e : ℕ) : Type 0 where
  pub good : is_bad_store xs st.count (limit_of st.width) ≡ false
  pub nonempty : s < e
  pub start-within : s ≤ limit_of st.width
  pub end-within : e ≤ limit_of st.width
  pub coalesced : Coalesced (counted xs st.count)
