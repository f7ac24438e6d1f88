-- What an event does to the timer (document 02, C-22): activity is judged after each accepted event.
use Rattle.std.specs.Prelude.{ℕ, Bool, ◌&&◌, ◌||◌, cond, List, ltb}
use Rattle.reception.specs.declared.Reception.{Reception}
use Rattle.reception.specs.History.{Event, State, is_accepted, is_metadata, step}
use Rattle.holding.specs.MissingOctets.{missing_octets}
use Rattle.deferring.specs.declared.Activity.{Activity}
use Rattle.deferring.specs.declared.Activity.TheVariants as activity
use Rattle.deferring.specs.declared.Deferred.{Deferred}
use Rattle.deferring.specs.Timer.{gone_active, gone_idle}

-- The reception of a record and the list lent beside it.
abbrev pub state_of : Reception → List ℕ → State
state_of rec xs = record { rec = rec; list = xs }

-- The size is known and anything is missing, metadata included.
abbrev pub is_due : Reception → List ℕ → Bool
is_due rec xs = rec.sized && (rec.missing || ltb 0 (missing_octets rec xs))

-- The event lowers the number of missing octets: their numbers before and after it.
abbrev pub is_lowered : State → Event → Bool
is_lowered s e = ltb (missing_octets (step s e).rec (step s e).list) (missing_octets s.rec s.list)

-- It lowers that number, or is the metadata event.
abbrev pub is_news : State → Event → Bool
is_news s e = is_metadata e || is_lowered s e

-- Judged: active if it is due, else idle. News zeroes the counter and restarts the countdown; without it an active one goes on as it is.
-- Deaf, events pass it by.
abbrev pub judged_as : Activity → Bool → Bool → Deferred → Deferred
judged_as activity.Idle due news t = cond due (gone_active t) (gone_idle t)
judged_as activity.Active due news t = cond due (cond news (gone_active t) t) (gone_idle t)
judged_as activity.Deaf due news t = t

abbrev pub judged : Bool → Bool → Deferred → Deferred
judged due news t = judged_as t.activity due news t

-- The timer after an event: a refused one changes nothing.
abbrev pub heard : Deferred → State → Event → Deferred
heard t s e = cond (is_accepted s e) (judged (is_due (step s e).rec (step s e).list) (is_news s e) t) t
