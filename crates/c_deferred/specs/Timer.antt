-- A timer in C's numbers: what they stand for, and what C is handed back.
use Rattle.std.specs.Prelude.{ℕ, cond, eqb}
use Rattle.deferring.specs.declared.Activity.{Activity}
use Rattle.deferring.specs.declared.Activity.TheVariants.{Idle, Active, Deaf}
use Rattle.deferring.specs.declared.Deferred.{Deferred}
use Rattle.c_deferred.specs.declared.PusmarkeDeferred.{PusmarkeDeferred}

-- 0 is idle, 1 is active, any other number is deaf.
abbrev pub activity_in : ℕ → Activity
activity_in n = cond (eqb n 0) Idle (cond (eqb n 1) Active Deaf)

abbrev pub activity_out : Activity → ℕ
activity_out Idle = 0
activity_out Active = 1
activity_out Deaf = 2

abbrev pub timer_in : PusmarkeDeferred → Deferred
timer_in t = record { period = t.period; limit = t.limit; activity = activity_in t.activity; left = t.left; counter = t.counter }

abbrev pub timer_out : Deferred → PusmarkeDeferred
timer_out t = record { period = t.period; limit = t.limit; activity = activity_out t.activity; left = t.left; counter = t.counter }

-- Where none was made: all numbers 0.
abbrev pub no_timer : PusmarkeDeferred
no_timer = record { period = 0; limit = 0; activity = 0; left = 0; counter = 0 }
