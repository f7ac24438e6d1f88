-- From make on: once the timer becomes active, by an event or a reset, and no event is accepted and no reset made after that, tick number
-- n answers as `answer_at d limit n` says; the report comes at tick d × (limit + 1).
use mathlib.Core.Path.{◌≡◌, sym, ap, ◌∙◌}
use mathlib.Core.Bool.{true, false}
use mathlib.Core.List.{List}
use Prim.Native.Nat.{ℕ, suc, ◌+◌, ◌*◌}
use lib.Dec.{eqb}
use Rattle.reception.specs.History.{Event, State, is_accepted}
use Rattle.deferring.specs.declared.Deferred.{Deferred}
use Rattle.deferring.specs.declared.tick.TickAnswer.TheVariants as answer
use Rattle.deferring.specs.Timer.{gone_active, is_active, is_deaf}
use Rattle.deferring.specs.Make.{is_bad_timer, fresh_timer}
use Rattle.deferring.specs.Hear.{is_due}
use Rattle.deferring.specs.Reset.{reset_outcome}
use Rattle.deferring.specs.Inputs.{Input, Comes, Reset, Watch, turn, turns, answer_now, ticks_of, NothingTaken, answer_at}
use Rattle.deferring.specs.Bounds.{InBounds}
use Rattle.deferring.proofs.Ticking.{asks_exactly, reported-at}
use Rattle.deferring.proofs.Runs.{becomes_active, reset_restarts}
use Rattle.deferring.proofs.Bounds.{some-ticks, always_in_bounds}

module _ (d limit : ℕ) (good : is_bad_timer d limit ≡ false) (s : State) (is : List Input) where
  -- after any run from make on, beside any reception
  abbrev watched : Watch
  watched = turns (record { timer = fresh_timer d limit; state = s }) is

  bounds : InBounds d limit watched.timer
  bounds = always_in_bounds d limit good s is

  -- a timer that just went active
  from-active : (k : Watch) → k.timer ≡ gone_active watched.timer → (js : List Input) → NothingTaken k js
      → answer_now (turns k js) ≡ answer_at d limit (suc (ticks_of js))
  from-active k e js n =
      let p : k.timer.period ≡ d = ap (λ (t : Deferred). t.period) e ∙ bounds.period in
      let l : k.timer.limit ≡ limit = ap (λ (t : Deferred). t.limit) e ∙ bounds.most in
      asks_exactly k (e ∙ ap gone_active (sym e)) (rw p (some-ticks d limit good)) js n
      ∙ ap (λ (x : ℕ). answer_at x k.timer.limit (suc (ticks_of js))) p
      ∙ ap (λ (x : ℕ). answer_at d x (suc (ticks_of js))) l

  -- an event makes it active
  pub from_event : (e : Event) → is_accepted watched.state e ≡ true
      → is_deaf watched.timer.activity ≡ false → is_active watched.timer.activity ≡ false
      → is_due (turn watched (Comes e)).state.rec (turn watched (Comes e)).state.list ≡ true
      → (js : List Input) → NothingTaken (turn watched (Comes e)) js
      → answer_now (turns (turn watched (Comes e)) js) ≡ answer_at d limit (suc (ticks_of js))
  from_event e f h i due js n = from-active (turn watched (Comes e)) (becomes_active watched e f h i due) js n

  -- a reset makes it active, whatever it was
  pub from_reset : eqb (reset_outcome watched.state.rec watched.state.list).number 0 ≡ true
      → is_due watched.state.rec watched.state.list ≡ true
      → (js : List Input) → NothingTaken (turn watched Reset) js
      → answer_now (turns (turn watched Reset) js) ≡ answer_at d limit (suc (ticks_of js))
  from_reset f due js n = from-active (turn watched Reset) (reset_restarts watched f ∙ rw due) js n

  -- so the report comes at tick d × (limit + 1)
  pub report_comes : (e : Event) → is_accepted watched.state e ≡ true
      → is_deaf watched.timer.activity ≡ false → is_active watched.timer.activity ≡ false
      → is_due (turn watched (Comes e)).state.rec (turn watched (Comes e)).state.list ≡ true
      → (js : List Input) → NothingTaken (turn watched (Comes e)) js → suc (ticks_of js) ≡ d * (limit + 1)
      → answer_now (turns (turn watched (Comes e)) js) ≡ answer.Limit
  report_comes e f h i due js n m = from_event e f h i due js n ∙ ap (answer_at d limit) m ∙ reported-at d limit (some-ticks d limit good)
