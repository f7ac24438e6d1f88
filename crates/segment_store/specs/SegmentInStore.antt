-- segment_in_store (a, b) is yes exactly if some stored (s, e) has a at least s and b at most e. (a, b) is not checked: reversed
-- pairs may say yes. Only 10 refuses (document 01, "Ranges and the store").
use Rattle.std.specs.Prelude.{ℕ, ◌≤◌, cond, Some, Result, Bool}
use mathlib.Core.List.{List, [], ◌∷◌, Memᴰ}
use Rattle.ranges.specs.Range.{Range, some, inside}
use Rattle.ranges.specs.Store.{counted}
use Rattle.outcomes.specs.Outcome.{Outcome, accepted}
use Rattle.outcomes.specs.Answered.{answered, yes_or_no}
use Rattle.outcomes.specs.Checks.{first_of}
use Rattle.outcomes.specs.declared.Refusal.{Refusal}
use Rattle.segment_store.specs.declared.Store.{Store}
use Rattle.segment_store.specs.Checks.{store_checks}

-- The number and the values of each case of the answer: 1 for yes and 0 for no.
abbrev pub in_store_case : Result Bool Refusal → Outcome
in_store_case = answered yes_or_no

-- Checks: 10.
abbrev pub in_store_outcome : List ℕ → Store → ℕ → ℕ → Outcome
in_store_outcome xs st a b =
    first_of (store_checks xs st)
    (cond (some (inside a b) (counted xs st.count)) (accepted (1 ∷ [])) (accepted (0 ∷ [])))

-- Some range of the list has a at least its start and b at most its end.
abbrev pub Held : ℕ → ℕ → List Range → Type 0
Held a b rs = (r : Range) × Memᴰ r rs × (r.start ≤ a) × (b ≤ r.end)
