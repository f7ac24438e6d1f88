-- missing_octets: the number of offsets in the list. A call of our own, for the report that document 02, C-24, is about.
use Rattle.std.specs.Prelude.{ℕ, List, [], ◌∷◌, Result}
use Rattle.ranges.specs.Store.{counted}
use Rattle.outcomes.specs.Outcome.{Outcome, accepted}
use Rattle.outcomes.specs.Answered.{answered, itself}
use Rattle.outcomes.specs.Checks.{first_of}
use Rattle.outcomes.specs.declared.Refusal.{Refusal}
use Rattle.reception.specs.declared.Reception.{Reception}
use Rattle.reception.specs.Record.{record_checks}
use Rattle.holding.specs.Count.{octets_below}

-- The number and the values of each case of the answer.
abbrev pub missing_octets_case : Result ℕ Refusal → Outcome
missing_octets_case = answered itself

-- The octets that a reception misses: the offsets below progress that the list has. No range of a sound record's list ends above it.
abbrev pub missing_octets : Reception → List ℕ → ℕ
missing_octets rec xs = octets_below rec.progress (counted xs rec.count)

-- Checks: 10, 8, 12.
abbrev pub missing_octets_outcome : Reception → List ℕ → Outcome
missing_octets_outcome rec xs = first_of (record_checks rec xs) (accepted (missing_octets rec xs ∷ []))
