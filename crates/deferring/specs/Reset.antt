-- A reset of the timer (document 02, C-22). It only reads the record and the list.
use Rattle.std.specs.Prelude.{ℕ, cond, List, [], Result, ⊤}
use Rattle.outcomes.specs.Outcome.{Outcome, accepted, lent}
use Rattle.outcomes.specs.Answered.{answered, nothing}
use Rattle.outcomes.specs.Checks.{first_of}
use Rattle.outcomes.specs.declared.Refusal.{Refusal}
use Rattle.reception.specs.declared.Reception.{Reception}
use Rattle.reception.specs.Record.{record_checks}
use Rattle.deferring.specs.declared.Deferred.{Deferred}
use Rattle.deferring.specs.Timer.{gone_active, gone_idle}
use Rattle.deferring.specs.Hear.{is_due}

-- The number and the values of each case of the answer.
abbrev pub reset_case : Result ⊤ Refusal → Outcome
reset_case = answered nothing

-- Checks: 10, 8, 12.
abbrev pub reset_outcome : Reception → List ℕ → Outcome
reset_outcome rec xs = first_of (record_checks rec xs) (accepted [])

-- Active if it is due, else idle, whatever it was before: the counter is zeroed and the countdown restarts.
abbrev pub restarted : Deferred → Reception → List ℕ → Deferred
restarted t rec xs = cond (is_due rec xs) (gone_active t) (gone_idle t)

-- The timer afterwards.
abbrev pub reset_timer : Deferred → Reception → List ℕ → Deferred
reset_timer t rec xs = lent (reset_outcome rec xs) (restarted t rec xs) t
