-- Making a timer of countdowns of d ticks and a limit (document 02, C-22).
use Rattle.std.specs.Prelude.{ℕ, Bool, ◌||◌, cond, ltb, eqb, Result, Ok, Err}
use Rattle.outcomes.specs.declared.Refusal.TheVariants as refusal
use Rattle.outcomes.specs.declared.Refusal.{Refusal}
use Rattle.deferring.specs.declared.Activity.TheVariants as activity
use Rattle.deferring.specs.declared.Deferred.{Deferred}

-- A countdown has 1 to 65,535 ticks, the limit is 1 to 255.
abbrev pub most_ticks : ℕ
most_ticks = 65535

abbrev pub most_asks : ℕ
most_asks = 255

abbrev pub is_outside : ℕ → ℕ → Bool
is_outside most n = eqb n 0 || ltb most n

-- 25: d or the limit is outside its range.
abbrev pub is_bad_timer : ℕ → ℕ → Bool
is_bad_timer d limit = is_outside most_ticks d || is_outside most_asks limit

-- It starts idle, with no look at the record.
abbrev pub fresh_timer : ℕ → ℕ → Deferred
fresh_timer d limit = record { period = d; limit = limit; activity = activity.Idle; left = 0; counter = 0 }

abbrev pub made : ℕ → ℕ → Result Deferred Refusal
made d limit = cond (is_bad_timer d limit) (Err refusal.BadTimer) (Ok (fresh_timer d limit))
