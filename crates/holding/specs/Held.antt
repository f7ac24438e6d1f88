-- held (a, b): was every octet of it kept? A call of our own, for the report that document 02, C-24, is about.
use Rattle.std.specs.Prelude.{ℕ, Bool, ◌&&◌, not, cond, List, [], ◌∷◌, ◌++◌, leb, ltb, eqb, Result}
use Rattle.ranges.specs.Range.{some, shares}
use Rattle.ranges.specs.Store.{counted}
use Rattle.outcomes.specs.Outcome.{Outcome, accepted}
use Rattle.outcomes.specs.Answered.{answered, yes_or_no}
use Rattle.outcomes.specs.Checks.{Check, first_of}
use Rattle.outcomes.specs.declared.Refusal.TheVariants as refusal
use Rattle.outcomes.specs.declared.Refusal.{Refusal}
use Rattle.reception.specs.declared.Reception.{Reception}
use Rattle.reception.specs.Record.{record_checks}

-- The number and the values of each case of the answer: 1 for yes, 0 for no.
abbrev pub held_case : Result Bool Refusal → Outcome
held_case = answered yes_or_no

-- Checks of the range itself: 2, 3 (start, end).
abbrev pub span_checks : ℕ → ℕ → List Check
span_checks a b =
    (eqb a b, refusal.EmptySegment)
    ∷ (ltb b a, refusal.StartLargerThanEnd a b)
    ∷ []

-- Checks: 10, 8, 12, 2, 3.
abbrev pub held_checks : Reception → List ℕ → ℕ → ℕ → List Check
held_checks rec xs a b = record_checks rec xs ++ span_checks a b

-- Metadata is known, b is at most progress, and no offset of (a, b) is in the list.
abbrev pub is_held : Reception → List ℕ → ℕ → ℕ → Bool
is_held rec xs a b = not rec.missing && (leb b rec.progress && not (some (shares a b) (counted xs rec.count)))

abbrev pub held_outcome : Reception → List ℕ → ℕ → ℕ → Outcome
held_outcome rec xs a b = first_of (held_checks rec xs a b) (cond (is_held rec xs a b) (accepted (1 ∷ [])) (accepted (0 ∷ [])))
