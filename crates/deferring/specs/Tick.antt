-- A tick of the timer (document 02, C-22). The rules are for any numbers, also for those that no call leaves in a timer.
use Rattle.std.specs.Prelude.{◌+◌, ◌-◌, Bool, cond, leb}
use Rattle.deferring.specs.declared.Activity.{Activity}
use Rattle.deferring.specs.declared.Activity.TheVariants as activity
use Rattle.deferring.specs.declared.Deferred.{Deferred}
use Rattle.deferring.specs.declared.tick.TickAnswer.{TickAnswer}
use Rattle.deferring.specs.declared.tick.TickAnswer.TheVariants as answer
use Rattle.deferring.specs.declared.tick.TickDone.{TickDone}
use Rattle.deferring.specs.Timer.{standing, gone_deaf}

abbrev pub answering : TickAnswer → Deferred → TickDone
answering a t = record { answer = a; timer = t }

-- The tick is the last one that is left of the countdown.
abbrev pub is_expiry : Deferred → Bool
is_expiry t = leb t.left 1

-- The counter has reached the limit.
abbrev pub is_spent : Deferred → Bool
is_spent t = leb t.limit t.counter

-- At zero it asks for one full sequence, raises the counter and restarts; when the counter has reached the limit, it reports the limit
-- and stops, deaf.
abbrev pub expired : Deferred → TickDone
expired t = cond (is_spent t) (answering answer.Limit (gone_deaf t)) (answering answer.Ask (standing t activity.Active t.period (t.counter + 1)))

-- While active each tick takes one off the countdown.
abbrev pub counted_down : Deferred → TickDone
counted_down t = cond (is_expiry t) (expired t) (answering answer.Quiet (standing t activity.Active (t.left - 1) t.counter))

-- Idle or deaf, ticks pass it by.
abbrev pub ticked_as : Activity → Deferred → TickDone
ticked_as activity.Idle t = answering answer.Quiet t
ticked_as activity.Active t = counted_down t
ticked_as activity.Deaf t = answering answer.Quiet t

abbrev pub ticked : Deferred → TickDone
ticked t = ticked_as t.activity t
