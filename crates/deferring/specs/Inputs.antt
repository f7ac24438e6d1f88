-- Histories of a reception with its timer: inputs are events, ticks and resets; what one input does, and what a list of them leaves.
use Rattle.std.specs.Prelude.{ℕ, zero, suc, ◌+◌, ◌/◌, ◌%◌, ◌≡◌, true, false, cond, List, [], ◌∷◌, ◌⊎◌, leb, eqb}
use Rattle.reception.specs.History.{Event, State, fresh, is_accepted, step, metadata_came, told_size, Missing}
use Rattle.ranges.specs.declared.Width.{Width}
use Rattle.deferring.specs.declared.Deferred.{Deferred}
use Rattle.deferring.specs.declared.tick.TickAnswer.{TickAnswer}
use Rattle.deferring.specs.declared.tick.TickAnswer.TheVariants as answer
use Rattle.deferring.specs.Make.{fresh_timer}
use Rattle.deferring.specs.Tick.{ticked}
use Rattle.deferring.specs.Hear.{is_due, is_news, heard}
use Rattle.deferring.specs.Reset.{reset_timer}

pub data Input : Type 0 where
  Comes : Event → Input
  Tick : Input
  Reset : Input

-- A reception and its timer.
pub record Watch : Type 0 where
  pub timer : Deferred
  pub state : State

-- A fresh timer beside a fresh reception.
abbrev pub fresh_watch : ℕ → ℕ → Width → List ℕ → Watch
fresh_watch d limit w xs = record { timer = fresh_timer d limit; state = fresh w xs }

-- What the call for an input leaves.
abbrev pub turn : Watch → Input → Watch
turn k (Comes e) = record { timer = heard k.timer k.state e; state = step k.state e }
turn k Tick = record { timer = (ticked k.timer).timer; state = k.state }
turn k Reset = record { timer = reset_timer k.timer k.state.rec k.state.list; state = k.state }

abbrev pub turns : Watch → List Input → Watch
turns k [] = k
turns k (i ∷ is) = turns (turn k i) is

-- What a tick would answer now.
abbrev pub answer_now : Watch → TickAnswer
answer_now k = (ticked k.timer).answer

-- The events among the inputs, and how many ticks there are.
abbrev pub events_of : List Input → List Event
events_of [] = []
events_of (Comes e ∷ is) = e ∷ events_of is
events_of (Tick ∷ is) = events_of is
events_of (Reset ∷ is) = events_of is

abbrev pub ticks_of : List Input → ℕ
ticks_of [] = zero
ticks_of (Comes e ∷ is) = ticks_of is
ticks_of (Tick ∷ is) = suc (ticks_of is)
ticks_of (Reset ∷ is) = ticks_of is

-- n ticks and nothing else.
abbrev pub ticks : ℕ → Deferred → Deferred
ticks zero t = t
ticks (suc n) t = ticks n (ticked t).timer

-- No reset is made.
abbrev pub NoReset : List Input → Type 0
NoReset [] = Unit {0}
NoReset (Comes e ∷ is) = NoReset is
NoReset (Tick ∷ is) = NoReset is
NoReset (Reset ∷ is) = ⊥

-- No event is accepted, each judged at its turn, and no reset made.
abbrev pub NothingTaken : Watch → List Input → Type 0
NothingTaken k [] = Unit {0}
NothingTaken k (Comes e ∷ is) = (is_accepted k.state e ≡ false) × NothingTaken (turn k (Comes e)) is
NothingTaken k (Tick ∷ is) = NothingTaken (turn k Tick) is
NothingTaken k (Reset ∷ is) = ⊥

-- No reset is made, and each event is refused, or is no news and leaves the timer due.
abbrev pub Undisturbed : Watch → List Input → Type 0
Undisturbed k [] = Unit {0}
Undisturbed k (Comes e ∷ is) =
    ((is_accepted k.state e ≡ false) ⊎ ((is_news k.state e ≡ false) × (is_due (step k.state e).rec (step k.state e).list ≡ true)))
    × Undisturbed (turn k (Comes e)) is
Undisturbed k (Tick ∷ is) = Undisturbed (turn k Tick) is
Undisturbed k (Reset ∷ is) = ⊥

-- After the events the size was told, and the metadata did not come or an octet is missing.
abbrev pub Due : State → List Event → Type 0
Due s es = ((z : ℕ) × (told_size s es ≡ z ∷ [])) × ((metadata_came s es ≡ false) ⊎ ((x : ℕ) × Missing s es x))

-- What tick number n answers after the timer became active, if nothing is taken: it asks at d, 2d, … up to limit × d, reports the limit
-- at d × (limit + 1), and is quiet at every other tick.
abbrev pub answer_at : ℕ → ℕ → ℕ → TickAnswer
answer_at d limit n =
    cond (eqb (n % d) 0)
    (cond (leb (n / d) limit) answer.Ask (cond (eqb (n / d) (limit + 1)) answer.Limit answer.Quiet))
    answer.Quiet
