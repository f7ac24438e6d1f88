-- The check of a plan against the record (document 02, C-23): its checks, then its six tests.
use Rattle.std.specs.Prelude.{ℕ, ◌*◌, ◌/◌, not, List, [], ◌∷◌, ◌++◌, eqb, ltb, length, Result, ⊤}
use Rattle.ranges.specs.Store.{cleared}
use Rattle.outcomes.specs.Outcome.{Outcome, accepted, lent}
use Rattle.outcomes.specs.Answered.{answered, nothing}
use Rattle.outcomes.specs.Checks.{Check, first_of}
use Rattle.outcomes.specs.declared.Refusal.TheVariants as refusal
use Rattle.outcomes.specs.declared.Refusal.{Refusal}
use Rattle.nak.specs.declared.Identity.{Identity}
use Rattle.nak.specs.Writer.{is_bad_identity}
use Rattle.reception.specs.declared.Reception.{Reception}
use Rattle.reception.specs.Record.{record_checks}
use Rattle.planning.specs.Plan.{Plan, pdus, start_of}
use Rattle.planning.specs.Tests.{plan_tests}

-- The number and the values of each case of the answer.
abbrev pub plan_case : Result ⊤ Refusal → Outcome
plan_case = answered nothing

-- A plan has at most 16 PDUs.
abbrev pub most_pdus : ℕ
most_pdus = 16

-- The sum of the lengths.
abbrev pub sum_of : Plan → ℕ
sum_of p = start_of p.lengths (pdus p)

-- Not of document 02: the call sorts the requests in a list that is lent for it. A request has at least eight octets, so a pair for each eight octets of
-- the buffer has room for all.
abbrev pub room_for : List ℕ → ℕ
room_for os = length os / 8

-- Checks of what is proposed: 13 (the identity), 20 (over 16 PDUs), 6 (lengths not summing to the buffer); and our own, 6 where the lent list is too short,
-- `given` being its length.
abbrev pub proposal_checks : Identity → Plan → ℕ → List Check
proposal_checks d p given =
    (is_bad_identity d, refusal.BadIdentity)
    ∷ (ltb most_pdus (pdus p), refusal.BudgetTooLarge)
    ∷ (not (eqb (sum_of p) (length p.octets)), refusal.BufferSizeMissmatch (sum_of p) (length p.octets))
    ∷ (ltb given (2 * room_for p.octets), refusal.BufferSizeMissmatch (2 * room_for p.octets) given)
    ∷ []

-- Checks: 10, 8, 12 (the record), 13, 20, 6.
abbrev pub plan_checks : Reception → List ℕ → Identity → Plan → ℕ → List Check
plan_checks rec xs d p given = record_checks rec xs ++ proposal_checks d p given

-- What the call answers: the checks in order, then the tests in order.
abbrev pub plan_outcome : Reception → List ℕ → Identity → Plan → ℕ → Outcome
plan_outcome rec xs d p given = first_of (plan_checks rec xs d p given) (first_of (plan_tests rec xs d p) (accepted []))

-- The list lent to sort in, afterwards: as it was where a check refuses; else its slots for the requests are (0, 0), whatever the tests say.
abbrev pub plan_scratch : Reception → List ℕ → Identity → Plan → List ℕ → List ℕ
plan_scratch rec xs d p ys = lent (first_of (plan_checks rec xs d p (length ys)) (accepted [])) (cleared (room_for p.octets) ys) ys
