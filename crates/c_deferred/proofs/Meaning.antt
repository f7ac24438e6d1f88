-- What C's timer stands for after a call is the timer of the call's definition: a timer handed back and read again is that timer.
use mathlib.Core.Path.{◌≡◌, refl, ap}
use Prim.Native.Nat.{ℕ}
use Rattle.deferring.specs.declared.Activity.{Activity}
use Rattle.deferring.specs.declared.Activity.TheVariants.{Idle, Active, Deaf}
use Rattle.deferring.specs.declared.Deferred.{Deferred}
use Rattle.c_deferred.specs.Timer.{activity_in, activity_out, timer_in, timer_out}

pub activity_means : (a : Activity) → activity_in (activity_out a) ≡ a
activity_means Idle = refl
activity_means Active = refl
activity_means Deaf = refl

pub timer_means : (t : Deferred) → timer_in (timer_out t) ≡ t
timer_means t =
    ap
    (λ (a : Activity). record { period = t.period; limit = t.limit; activity = a; left = t.left; counter = t.counter })
    (activity_means t.activity)
