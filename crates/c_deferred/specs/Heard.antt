-- What the calls of the deferred NAK procedure hand back to C.
use Rattle.std.specs.Prelude.{ℕ, [], ◌∷◌, Result, Ok, Err}
use Rattle.outcomes.specs.Outcome.{Outcome, accepted}
use Rattle.outcomes.specs.Refusal.{refusing}
use Rattle.outcomes.specs.declared.Refusal.{Refusal}
use Rattle.answers.specs.Answer.{answer_of}
use Rattle.deferring.specs.declared.Deferred.{Deferred}
use Rattle.deferring.specs.declared.tick.TickAnswer.{TickAnswer}
use Rattle.deferring.specs.declared.tick.TickAnswer.TheVariants as ticking
use Rattle.deferring.specs.declared.tick.TickDone.{TickDone}
use Rattle.c_deferred.specs.declared.PusmarkeDeferred.{PusmarkeDeferred}
use Rattle.c_deferred.specs.declared.PusmarkeHeard.{PusmarkeHeard}
use Rattle.c_deferred.specs.Timer.{timer_out, no_timer}

-- An outcome and the timer beside it.
abbrev pub heard_out : Outcome → PusmarkeDeferred → PusmarkeHeard
heard_out o t = record { answer = answer_of o; timer = t }

-- Of make: the timer, or the refusal and no timer.
abbrev pub made_out : Result Deferred Refusal → PusmarkeHeard
made_out (Ok t) = heard_out (accepted []) (timer_out t)
made_out (Err r) = heard_out (refusing r) no_timer

-- Of a tick: 0 where it is quiet, 1 where it asks, 2 where it reports the limit.
abbrev pub tick_number : TickAnswer → ℕ
tick_number ticking.Quiet = 0
tick_number ticking.Ask = 1
tick_number ticking.Limit = 2

abbrev pub tick_out : TickDone → PusmarkeHeard
tick_out d = heard_out (accepted (tick_number d.answer ∷ [])) (timer_out d.timer)
