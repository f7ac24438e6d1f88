-- No two answers have one outcome, so the call's statement allows one answer.
use Rattle.std.specs.Prelude.{Result, ⊤}
use mathlib.Core.Path.{◌≡◌}
use Rattle.outcomes.specs.declared.Refusal.{Refusal}
use Rattle.outcomes.proofs.Answered.{one-nothing}
use Rattle.planning.specs.Check.{plan_case}

pub one-plan : (r s : Result ⊤ Refusal) → plan_case r ≡ plan_case s → r ≡ s
one-plan = one-nothing
