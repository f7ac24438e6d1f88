-- The metadata event (document 01, "Reception events").
use Rattle.std.specs.Prelude.{ℕ, not, List, [], ◌∷◌, ◌++◌, Result, ⊤}
use Rattle.outcomes.specs.Outcome.{Outcome, accepted, lent}
use Rattle.outcomes.specs.Answered.{answered, nothing}
use Rattle.outcomes.specs.Checks.{Check, first_of}
use Rattle.outcomes.specs.declared.Refusal.TheVariants as refusal
use Rattle.outcomes.specs.declared.Refusal.{Refusal}
use Rattle.reception.specs.declared.Reception.{Reception}
use Rattle.reception.specs.Record.{record_checks, known}

-- The number and the values of each case of the answer.
abbrev pub metadata_case : Result ⊤ Refusal → Outcome
metadata_case = answered nothing

-- 19: the metadata is known.
abbrev pub mark_checks : Reception → List Check
mark_checks rec = (not rec.missing, refusal.AlreadyKnown) ∷ []

-- Checks: 10, 8, 12, 19.
abbrev pub metadata_checks : Reception → List ℕ → List Check
metadata_checks rec xs = record_checks rec xs ++ mark_checks rec

abbrev pub metadata_outcome : Reception → List ℕ → Outcome
metadata_outcome rec xs = first_of (metadata_checks rec xs) (accepted [])

-- The record afterwards: it only clears the missing mark. The list is only read.
abbrev pub metadata_record : Reception → List ℕ → Reception
metadata_record rec xs = lent (metadata_outcome rec xs) (known rec) rec
