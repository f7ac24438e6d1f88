-- The timer of the deferred NAK procedure (document 02, C-22): idle, active or deaf; what is left of its countdown, and its counter.
use Rattle.std.specs.Prelude.{ℕ, Bool, true, false}
use Rattle.deferring.specs.declared.Activity.{Activity}
use Rattle.deferring.specs.declared.Activity.TheVariants as activity
use Rattle.deferring.specs.declared.Deferred.{Deferred}

-- A timer with the same countdown and limit that stands elsewhere.
abbrev pub standing : Deferred → Activity → ℕ → ℕ → Deferred
standing t a left counter = record { period = t.period; limit = t.limit; activity = a; left = left; counter = counter }

-- Going active: the counter is 0, and the countdown starts with its d ticks.
abbrev pub gone_active : Deferred → Deferred
gone_active t = standing t activity.Active t.period 0

-- Going idle: the counter is 0, and nothing is left of the countdown.
abbrev pub gone_idle : Deferred → Deferred
gone_idle t = standing t activity.Idle 0 0

-- Going deaf: nothing is left of the countdown; the counter stays where it is.
abbrev pub gone_deaf : Deferred → Deferred
gone_deaf t = standing t activity.Deaf 0 t.counter

abbrev pub is_active : Activity → Bool
is_active activity.Idle = false
is_active activity.Active = true
is_active activity.Deaf = false

abbrev pub is_deaf : Activity → Bool
is_deaf activity.Idle = false
is_deaf activity.Active = false
is_deaf activity.Deaf = true
