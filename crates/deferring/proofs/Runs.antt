-- What any run of events, ticks and resets does to the timer: the record and the list are those of the events alone; deaf, nothing but a
-- reset changes it; a refused event changes nothing; news restarts; the numbers stay in their bounds; and it is active exactly where the
-- size is known and something is missing.
use mathlib.Core.Path.{◌≡◌, refl, sym, ap, ◌∙◌}
use mathlib.Core.Bool.{Bool, true, false, cond, true≢false}
use mathlib.Core.List.{List, [], ◌∷◌}
use lib.Dec.{eqb}
use Rattle.reception.specs.History.{Event, State, is_accepted, step, run}
use Rattle.reception.proofs.Records.{refused-same}
use Rattle.deferring.specs.declared.Activity.{Activity}
use Rattle.deferring.specs.declared.Activity.TheVariants as activity
use Rattle.deferring.specs.declared.Deferred.{Deferred}
use Rattle.deferring.specs.declared.tick.TickAnswer.TheVariants as answer
use Rattle.deferring.specs.Timer.{gone_active, gone_idle, is_active, is_deaf}
use Rattle.deferring.specs.Tick.{ticked_as}
use Rattle.deferring.specs.Hear.{is_due, is_news, judged_as, heard}
use Rattle.deferring.specs.Reset.{reset_outcome, reset_timer}
use Rattle.deferring.specs.Inputs.{Input, Comes, Tick, Reset, Watch, turn, turns, answer_now, events_of, NoReset}

-- the record and the list after a run are those that the events alone leave
pub run_alone : (is : List Input) (k : Watch) → (turns k is).state ≡ run k.state (events_of is)
run_alone [] k = refl
run_alone (Comes e ∷ is) k = run_alone is (turn k (Comes e))
run_alone (Tick ∷ is) k = run_alone is (turn k Tick)
run_alone (Reset ∷ is) k = run_alone is (turn k Reset)

-- a refused event changes nothing of timer, record and list
pub refused-nothing : (k : Watch) (e : Event) → is_accepted k.state e ≡ false → turn k (Comes e) ≡ k
refused-nothing k e f = λ i. record { timer = timer i; state = refused-same k.state e f i }
  where
    timer : heard k.timer k.state e ≡ k.timer
    timer = rw f

-- deaf, nothing but a reset changes the timer, and no tick says anything
deaf_is : (a : Activity) → is_deaf a ≡ true → a ≡ activity.Deaf
deaf_is activity.Idle e = absurd (true≢false (sym e))
deaf_is activity.Active e = absurd (true≢false (sym e))
deaf_is activity.Deaf e = refl

deaf_heard : (t : Deferred) (s : State) (e : Event) → t.activity ≡ activity.Deaf → heard t s e ≡ t
deaf_heard t s e d = go (is_accepted s e) refl
  where
    deaf-judged : (a : Activity) (due news : Bool) → a ≡ activity.Deaf → judged_as a due news t ≡ t
    deaf-judged activity.Idle due news d = absurd (true≢false (sym (ap is_deaf d)))
    deaf-judged activity.Active due news d = absurd (true≢false (sym (ap is_deaf d)))
    deaf-judged activity.Deaf due news d = refl

    go : (u : Bool) → is_accepted s e ≡ u → heard t s e ≡ t
    go true f = rw f (deaf-judged t.activity (is_due (step s e).rec (step s e).list) (is_news s e) d)
    go false f = rw f

deaf_ticked : (t : Deferred) (a : Activity) → a ≡ activity.Deaf → ((ticked_as a t).timer ≡ t) × ((ticked_as a t).answer ≡ answer.Quiet)
deaf_ticked t activity.Idle d = (refl, refl)
deaf_ticked t activity.Active d = absurd (true≢false (sym (ap is_deaf d)))
deaf_ticked t activity.Deaf d = (refl, refl)

pub deaf_stays : (is : List Input) (k : Watch) → is_deaf k.timer.activity ≡ true → NoReset is
    → ((turns k is).timer ≡ k.timer) × (answer_now (turns k is) ≡ answer.Quiet)
deaf_stays [] k d n = (refl, (deaf_ticked k.timer k.timer.activity (deaf_is k.timer.activity d)).1)
deaf_stays (Comes e ∷ is) k d n =
    let same = deaf_heard k.timer k.state e (deaf_is k.timer.activity d) in
    let w = deaf_stays is (turn k (Comes e)) (ap (λ (t : Deferred). is_deaf t.activity) same ∙ d) n in
    (w.0 ∙ same, w.1)
deaf_stays (Tick ∷ is) k d n =
    let same = (deaf_ticked k.timer k.timer.activity (deaf_is k.timer.activity d)).0 in
    let w = deaf_stays is (turn k Tick) (ap (λ (t : Deferred). is_deaf t.activity) same ∙ d) n in
    (w.0 ∙ same, w.1)
deaf_stays (Reset ∷ is) k d n = absurd n

-- what an accepted event makes of a timer that hears
module _ (k : Watch) (e : Event) (f : is_accepted k.state e ≡ true) (hears : is_deaf k.timer.activity ≡ false) where
  abbrev after : Watch
  after = turn k (Comes e)

  abbrev due : Bool
  due = is_due after.state.rec after.state.list

  heard-now : after.timer ≡ judged_as k.timer.activity due (is_news k.state e) k.timer
  heard-now = rw f

  -- it is then active exactly if the size is known and something is missing, and it hears
  pub judged_exactly : (is_active after.timer.activity ≡ due) × (is_deaf after.timer.activity ≡ false)
  judged_exactly =
      let w = go k.timer.activity due (is_news k.state e) refl hears in
      (ap (λ (t : Deferred). is_active t.activity) heard-now ∙ w.0, ap (λ (t : Deferred). is_deaf t.activity) heard-now ∙ w.1)
    where
      go : (a : Activity) (d n : Bool) → k.timer.activity ≡ a → is_deaf a ≡ false
          → (is_active (judged_as a d n k.timer).activity ≡ d) × (is_deaf (judged_as a d n k.timer).activity ≡ false)
      go activity.Idle true n g h = (refl, refl)
      go activity.Idle false n g h = (refl, refl)
      go activity.Active true true g h = (refl, refl)
      go activity.Active true false g h = rw g (refl, refl)
      go activity.Active false n g h = (refl, refl)
      go activity.Deaf d n g h = absurd (true≢false h)

  -- where it is due, an event that lowers the missing octets, and the metadata event, give it its full countdown and the counter 0
  pub news_restarts : is_news k.state e ≡ true → due ≡ true → after.timer ≡ gone_active k.timer
  news_restarts n d = heard-now ∙ rw (n, d) (go k.timer.activity hears)
    where
      go : (a : Activity) → is_deaf a ≡ false → judged_as a true true k.timer ≡ gone_active k.timer
      go activity.Idle h = refl
      go activity.Active h = refl
      go activity.Deaf h = absurd (true≢false h)

  -- going active is the same, with news or without
  pub becomes_active : is_active k.timer.activity ≡ false → due ≡ true → after.timer ≡ gone_active k.timer
  becomes_active i d = heard-now ∙ rw d (go k.timer.activity hears i)
    where
      go : (a : Activity) → is_deaf a ≡ false → is_active a ≡ false → judged_as a true (is_news k.state e) k.timer ≡ gone_active k.timer
      go activity.Idle h i = refl
      go activity.Active h i = absurd (true≢false i)
      go activity.Deaf h i = absurd (true≢false h)

  -- without news, and where it stays due, an active timer goes on as it is
  pub goes_on : is_active k.timer.activity ≡ true → is_news k.state e ≡ false → due ≡ true → after.timer ≡ k.timer
  goes_on i n d = heard-now ∙ rw (n, d) (go k.timer.activity i)
    where
      go : (a : Activity) → is_active a ≡ true → judged_as a true false k.timer ≡ k.timer
      go activity.Idle i = absurd (true≢false (sym i))
      go activity.Active i = refl
      go activity.Deaf i = absurd (true≢false (sym i))

  -- where it is not due, it is idle: counter 0, nothing left
  pub goes_idle : due ≡ false → after.timer ≡ gone_idle k.timer
  goes_idle d = heard-now ∙ rw d (go k.timer.activity hears)
    where
      go : (a : Activity) → is_deaf a ≡ false → judged_as a false (is_news k.state e) k.timer ≡ gone_idle k.timer
      go activity.Idle h = refl
      go activity.Active h = refl
      go activity.Deaf h = absurd (true≢false h)

-- a reset that is not refused works in every state: the counter is 0, and it is active exactly if it is due, with its full countdown
pub reset_restarts : (k : Watch) → eqb (reset_outcome k.state.rec k.state.list).number 0 ≡ true
    → (turn k Reset).timer ≡ cond (is_due k.state.rec k.state.list) (gone_active k.timer) (gone_idle k.timer)
reset_restarts k f = rw f

pub reset_refused : (k : Watch) → eqb (reset_outcome k.state.rec k.state.list).number 0 ≡ false → turn k Reset ≡ k
reset_refused k f = λ i. record { timer = timer i; state = k.state }
  where
    timer : reset_timer k.timer k.state.rec k.state.list ≡ k.timer
    timer = rw f
