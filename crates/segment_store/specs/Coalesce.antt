-- coalesce drops pairs with e at most s, then leaves the maximal runs of the union, ascending (document 01, "Ranges and the
-- store"). Only 10 refuses.
use Rattle.std.specs.Prelude.{ℕ, List, [], ◌∷◌, length, Result}
use Rattle.ranges.specs.Range.{Range}
use Rattle.ranges.specs.Insert.{join}
use Rattle.ranges.specs.Store.{counted, stored}
use Rattle.outcomes.specs.Outcome.{Outcome, accepted, lent}
use Rattle.outcomes.specs.Answered.{answered, itself}
use Rattle.outcomes.specs.Checks.{first_of}
use Rattle.outcomes.specs.declared.Refusal.{Refusal}
use Rattle.segment_store.specs.declared.Store.{Store}
use Rattle.segment_store.specs.Checks.{store_checks}

-- The number and the values of each case of the answer.
abbrev pub coalesce_case : Result ℕ Refusal → Outcome
coalesce_case = answered itself

-- Each of the pairs rs in turn, put into the coalesced list qs.
abbrev pub gather : List Range → List Range → List Range
gather qs [] = qs
gather qs (r ∷ rs) = gather (join r qs) rs

-- The maximal runs of the union of the pairs, ascending.
unfoldable pub maximal_runs : List Range → List Range
maximal_runs rs = gather [] rs

-- Checks: 10. An accepted call hands back the number of the runs.
abbrev pub coalesce_outcome : List ℕ → Store → Outcome
coalesce_outcome xs st = first_of (store_checks xs st) (accepted (length (maximal_runs (counted xs st.count)) ∷ []))

abbrev pub coalesce_list : List ℕ → Store → List ℕ
coalesce_list xs st = lent (coalesce_outcome xs st) (stored (maximal_runs (counted xs st.count)) st.count xs) xs
