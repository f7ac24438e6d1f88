-- A transfer that closes stops asking: where one full sequence is sent at an ask and the data for it comes whole before the next expiry,
-- the timer goes idle.
use mathlib.Core.Path.{◌≡◌, refl, sym, ap, ◌∙◌}
use mathlib.Core.Bool.{Bool, true, false, not, cond, true≢false}
use mathlib.Core.List.{List, [], ◌∷◌}
use Prim.Native.Nat.{ℕ, suc, ◌*◌, ◌≤◌, ◌<◌}
use native.Mathlib.Omega.{arith}
use lib.ListN.{length}
use lib.Dec.{eqb}
use borrow.Author.Tests.{leb-true}
use Rattle.ranges.specs.Range.{Range, Covers}
use Rattle.ranges.specs.Store.{most_pairs}
use Rattle.ranges.specs.declared.Width.{Width}
use Rattle.reception.specs.History.{Event, State, fresh, is_accepted, step, run, metadata_came, told_size, ranges_of}
use Rattle.reception.proofs.Records.{mark_metadata, step_mark}
use Rattle.holding.specs.Count.{is_covered}
use Rattle.holding.specs.Whole.{AllWhole, NoneRefused}
use Rattle.holding.specs.MissingOctets.{missing_octets}
use Rattle.holding.proofs.Counting.{count_none}
use Rattle.sequence.specs.Entries.{rounded_up}
use Rattle.sequence.specs.Sequence.{Allowed, asked}
use Rattle.sequence.specs.declared.Order.{Order}
use Rattle.sequence.specs.Calls.{Call, AllFit, octets_by, budgets}
use Rattle.sequence.specs.Parted.{parted, requests_read}
use Rattle.closing.specs.Arrival.{data_of}
use Rattle.closing.proofs.Closing.{closes-covered}
use Rattle.closing.proofs.Closes.{closes-whole}
use Rattle.deferring.specs.declared.Activity.{Activity}
use Rattle.deferring.specs.declared.Activity.TheVariants as activity
use Rattle.deferring.specs.declared.Deferred.{Deferred}
use Rattle.deferring.specs.declared.tick.TickAnswer.{TickAnswer}
use Rattle.deferring.specs.declared.tick.TickAnswer.TheVariants as answer
use Rattle.deferring.specs.Timer.{gone_active, gone_idle, is_active, is_deaf}
use Rattle.deferring.specs.Make.{is_bad_timer}
use Rattle.deferring.specs.Tick.{is_expiry, is_spent, counted_down, ticked_as, ticked}
use Rattle.deferring.specs.Hear.{is_due, is_news, judged_as, heard}
use Rattle.deferring.specs.Reset.{reset_outcome, reset_timer}
use Rattle.deferring.specs.Inputs.{Input, Comes, Tick, Reset, Watch, fresh_watch, turn, turns, answer_now, events_of, ticks_of}
use Rattle.deferring.specs.Bounds.{InBounds}
use Rattle.deferring.proofs.Runs.{run_alone}
use Rattle.deferring.proofs.Bounds.{turn_in, always_in_bounds, some-ticks}
use Rattle.deferring.proofs.Watching.{turns_follow}

-- a timer that hears, and does not expire within m ticks of a countdown of d
pub record Safe (d m : ℕ) (t : Deferred) : Type 0 where
  pub period : t.period ≡ d
  pub hears : is_deaf t.activity ≡ false
  pub more : is_active t.activity ≡ true → m < t.left

module _ (d : ℕ) where
  active-safe : (m : ℕ) (t : Deferred) → m < d → Safe d m t → Safe d m (gone_active t)
  active-safe m t l h = let p = h.period in record { period = p; hears = refl; more = λ e. omega arith }

  idle-safe : (m : ℕ) (t : Deferred) → Safe d m t → Safe d m (gone_idle t)
  idle-safe m t h = record { period = h.period; hears = refl; more = λ e. absurd (true≢false (sym e)) }

  either-safe : (m : ℕ) (t : Deferred) → m < d → Safe d m t → (due : Bool) → Safe d m (cond due (gone_active t) (gone_idle t))
  either-safe m t l h true = active-safe m t l h
  either-safe m t l h false = idle-safe m t h

  judged-safe : (m : ℕ) (t : Deferred) → m < d → Safe d m t → (a : Activity) (due news : Bool) → Safe d m (judged_as a due news t)
  judged-safe m t l h activity.Idle due news = either-safe m t l h due
  judged-safe m t l h activity.Active true true = active-safe m t l h
  judged-safe m t l h activity.Active true false = h
  judged-safe m t l h activity.Active false news = idle-safe m t h
  judged-safe m t l h activity.Deaf due news = h

  ticked-safe : (m : ℕ) (t : Deferred) → Safe d (suc m) t → Safe d m (ticked t).timer
  ticked-safe m t h = go t.activity refl
    where
      less : Safe d m t
      less = record { period = h.period; hears = h.hears; more = λ e. let k = h.more e in omega arith }

      go : (a : Activity) → t.activity ≡ a → Safe d m (ticked_as a t).timer
      go activity.Idle e = less
      go activity.Deaf e = less
      go activity.Active e = counting (is_expiry t) refl
        where
          left : suc m < t.left
          left = h.more (rw e)

          counting : (x : Bool) → is_expiry t ≡ x → Safe d m (counted_down t).timer
          counting true f = let k : t.left ≤ 1 = leb-true _ _ f in absurd (omega (arith, k, left))
          counting false f = rw f (record { period = h.period; hears = refl; more = λ q. omega (arith, left) })

  -- whatever comes with at most m ticks, it hears to the end
  still-hears : (js : List Input) (k : Watch) → ticks_of js < d → Safe d (ticks_of js) k.timer → is_deaf (turns k js).timer.activity ≡ false
  still-hears [] k l h = h.hears
  still-hears (Comes e ∷ js) k l h = still-hears js (turn k (Comes e)) l (go (is_accepted k.state e) refl)
    where
      go : (u : Bool) → is_accepted k.state e ≡ u → Safe d (ticks_of js) (heard k.timer k.state e)
      go true f = rw f (judged-safe (ticks_of js) k.timer l h k.timer.activity (is_due (step k.state e).rec (step k.state e).list) (is_news k.state e))
      go false f = rw f h
  still-hears (Tick ∷ js) k l h = still-hears js (turn k Tick) (omega arith) (ticked-safe (ticks_of js) k.timer h)
  still-hears (Reset ∷ js) k l h = still-hears js (turn k Reset) l (go (eqb (reset_outcome k.state.rec k.state.list).number 0) refl)
    where
      go : (u : Bool) → eqb (reset_outcome k.state.rec k.state.list).number 0 ≡ u → Safe d (ticks_of js) (reset_timer k.timer k.state.rec k.state.list)
      go true f = rw f (either-safe (ticks_of js) k.timer l h (is_due k.state.rec k.state.list))
      go false f = rw f h

-- an ask leaves the timer active, with its full countdown
abbrev is_ask : TickAnswer → Bool
is_ask answer.Quiet = false
is_ask answer.Ask = true
is_ask answer.Limit = false

ask_restarts : (t : Deferred) → (ticked t).answer ≡ answer.Ask → (is_deaf (ticked t).timer.activity ≡ false) × ((ticked t).timer.left ≡ t.period)
ask_restarts t e = go t.activity (is_expiry t) (is_spent t) refl refl e
  where
    go : (a : Activity) (x y : Bool) → is_expiry t ≡ x → is_spent t ≡ y → (ticked_as a t).answer ≡ answer.Ask
        → (is_deaf (ticked_as a t).timer.activity ≡ false) × ((ticked_as a t).timer.left ≡ t.period)
    go activity.Idle x y f g e = absurd (true≢false (sym (ap is_ask e)))
    go activity.Deaf x y f g e = absurd (true≢false (sym (ap is_ask e)))
    go activity.Active true true f g e = let w : answer.Limit ≡ answer.Ask = rw (f, g) at e in absurd (true≢false (sym (ap is_ask w)))
    go activity.Active true false f g e = rw (f, g) (refl, refl)
    go activity.Active false y f g e = let w : answer.Quiet ≡ answer.Ask = rw f at e in absurd (true≢false (sym (ap is_ask w)))

-- metadata that is known stays so
run-known : (es : List Event) (s : State) → s.rec.missing ≡ false → (run s es).rec.missing ≡ false
run-known [] s m = m
run-known (e ∷ es) s m = run-known es (step s e) (step_mark s e true m)

-- a record with metadata known and an empty list is not due
none_due : (s : State) → s.rec.missing ≡ false → ranges_of s ≡ [] → is_due s.rec s.list ≡ false
none_due s m e = go s.rec.sized refl
  where
    none : missing_octets s.rec s.list ≡ 0
    none = count_none (is_covered (ranges_of s)) s.rec.progress (λ x h. ap (λ (rs : List Range). is_covered rs x) e)

    go : (t : Bool) → s.rec.sized ≡ t → is_due s.rec s.list ≡ false
    go true f = rw (f, m, none)
    go false f = rw f

idle_only : (a : Activity) → is_deaf a ≡ false → is_active a ≡ false → a ≡ activity.Idle
idle_only activity.Idle d i = refl
idle_only activity.Active d i = absurd (true≢false i)
idle_only activity.Deaf d i = absurd (true≢false d)

-- one full sequence on the record that any run with metadata and size leaves, as at an ask
module _
    (d limit : ℕ) (good : is_bad_timer d limit ≡ false)
    (w : Width) (xs : List ℕ) (N : ℕ) (size : length xs ≡ 2 * N) (few : N ≤ most_pairs) (is : List Input)
    (known : metadata_came (fresh w xs) (events_of is) ≡ true) (z : ℕ) (told : told_size (fresh w xs) (events_of is) ≡ z ∷ [])
    (o : Order)
    (ok : Allowed (run (fresh w xs) (events_of is)).rec (run (fresh w xs) (events_of is)).list o)
    (cs : List Call) (fit : AllFit o cs)
    (enough : rounded_up (length (asked (run (fresh w xs) (events_of is)).rec (run (fresh w xs) (events_of is)).list o).entries)
    (asked (run (fresh w xs) (events_of is)).rec (run (fresh w xs) (events_of is)).list o).each ≤ budgets cs)
  where
    abbrev at-ask : Watch
    at-ask = turns (fresh_watch d limit w xs) is

    abbrev reached : State
    reached = run (fresh w xs) (events_of is)

    -- the requests that the sequence says
    abbrev requests : List Range
    requests = requests_read o.form.edition (parted (octets_by reached.rec reached.list o 0 cs))

    -- whatever comes and empties the list: unless the timer is deaf in the end, it is idle
    emptied-idle : (js : List Input) → ranges_of (run reached (events_of js)) ≡ [] → is_deaf (turns at-ask js).timer.activity ≡ false
        → (turns at-ask js).timer.activity ≡ activity.Idle
    emptied-idle js e h = idle_only (turns at-ask js).timer.activity h (f ∙ n)
      where
        f : is_active (turns at-ask js).timer.activity ≡ is_due (turns at-ask js).state.rec (turns at-ask js).state.list
        f = turns_follow js at-ask (turns_follow is (fresh_watch d limit w xs) (λ g. refl)) h

        after : (turns at-ask js).state ≡ run reached (events_of js)
        after = run_alone js at-ask ∙ ap (λ (s : State). run s (events_of js)) (run_alone is (fresh_watch d limit w xs))

        n : is_due (turns at-ask js).state.rec (turns at-ask js).state.list ≡ false
        n =
            ap (λ (s : State). is_due s.rec s.list) after
            ∙ none_due (run reached (events_of js)) (run-known (events_of js) reached (mark_metadata w xs (events_of is) ∙ ap not known)) e

    -- the data for the requests comes whole, in any order, repeated, with ticks and resets among it
    pub closes-idle : (js : List Input) → AllWhole requests (events_of js) → ((x : ℕ) → Covers x requests → Covers x (data_of (events_of js)))
        → is_deaf (turns at-ask js).timer.activity ≡ false → (turns at-ask js).timer.activity ≡ activity.Idle
    closes-idle js a c = emptied-idle js (closes-whole w xs N size few (events_of is) known z told o ok cs fit enough (events_of js) a c).1

    -- or in any pieces, of which none is refused
    pub closes-idle-covered : (js : List Input) → ((x : ℕ) → Covers x requests → Covers x (data_of (events_of js))) → NoneRefused reached (events_of js)
        → is_deaf (turns at-ask js).timer.activity ≡ false → (turns at-ask js).timer.activity ≡ activity.Idle
    closes-idle-covered js c a = emptied-idle js (closes-covered w xs N size few (events_of is) known z told o ok cs fit enough (events_of js) c a)

    -- and where a tick asked and fewer than d ticks come meanwhile, it is idle
    pub closes-between : answer_now at-ask ≡ answer.Ask → (js : List Input) → ticks_of js < d
        → AllWhole requests (events_of js) → ((x : ℕ) → Covers x requests → Covers x (data_of (events_of js)))
        → (turns (turn at-ask Tick) js).timer.activity ≡ activity.Idle
    closes-between e js l a c = closes-idle (Tick ∷ js) a c (still-hears d js (turn at-ask Tick) l safe)
      where
        bounds : InBounds d limit at-ask.timer
        bounds = always_in_bounds d limit good (fresh w xs) is

        safe : Safe d (ticks_of js) (turn at-ask Tick).timer
        safe =
            let r = ask_restarts at-ask.timer e in
            let b = turn_in d limit (some-ticks d limit good) at-ask Tick bounds in
            record { period = b.period; hears = r.0; more = λ q. omega (arith, r.1, bounds.period, l) }
