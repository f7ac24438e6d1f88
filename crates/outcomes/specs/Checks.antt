-- The checks of a call: tests in order, each with the refusal that it gives.
use Rattle.std.specs.Prelude.{◌≡◌, Bool, false, cond, List, [], ◌∷◌, Result, ⊤}
use Rattle.outcomes.specs.Outcome.{Outcome, accepted}
use Rattle.outcomes.specs.Refusal.{refusing}
use Rattle.outcomes.specs.Answered.{answered, nothing}
use Rattle.outcomes.specs.declared.Refusal.{Refusal}

abbrev pub Check : Type 0
Check = Bool × Refusal

-- The first test that is met refuses; where none is, the outcome is the one behind them.
abbrev pub first_of : List Check → Outcome → Outcome
first_of [] behind = behind
first_of (c ∷ cs) behind = cond c.0 (refusing c.1) (first_of cs behind)

-- No test is met.
abbrev pub NoneOf : List Check → Type 0
NoneOf [] = Unit {0}
NoneOf (c ∷ cs) = (c.0 ≡ false) × NoneOf cs

-- What the function of a call's checks says, as an outcome.
abbrev pub verdict_case : Result ⊤ Refusal → Outcome
verdict_case = answered nothing
