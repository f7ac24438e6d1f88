-- From a fresh reception and a fresh timer, over any run: unless it is deaf, the timer is active exactly where the size was told and the
-- metadata or an octet is missing; and only then it asks.
use mathlib.Core.Path.{◌≡◌, refl, sym, ap, ◌∙◌}
use mathlib.Core.Bool.{Bool, true, false, ◌||◌, not, cond, true≢false}
use mathlib.Core.List.{List, [], ◌∷◌}
use mathlib.Core.Logic.{inl, inr, ⊎_elim, ◌↔◌}
use Prim.Native.Nat.{ℕ, zero, suc, ◌*◌, ◌≤◌, ◌<◌}
use native.Mathlib.Omega.{arith}
use lib.ListN.{length}
use lib.Dec.{ltb, eqb}
use borrow.Author.Tests.{ltb-true, ltb-false}
use Rattle.ranges.specs.Range.{Covers}
use Rattle.ranges.specs.Store.{most_pairs}
use Rattle.ranges.proofs.Test.{or_true}
use Rattle.ranges.specs.declared.Width.{Width}
use Rattle.reception.specs.History.{Event, State, fresh, is_accepted, run, metadata_came, Missing, ranges_of}
use Rattle.reception.proofs.Records.{mark_metadata, told-size}
use Rattle.reception.proofs.Histories.{missing_exact, holds}
use Rattle.holding.specs.Count.{count_below, is_covered}
use Rattle.holding.specs.MissingOctets.{missing_octets}
use Rattle.holding.proofs.Counting.{covered-set, none-counted}
use Rattle.holding.proofs.Sizes.{sized_of}
use Rattle.deferring.specs.declared.Activity.{Activity}
use Rattle.deferring.specs.declared.Activity.TheVariants as activity
use Rattle.deferring.specs.declared.Deferred.{Deferred}
use Rattle.deferring.specs.declared.tick.TickAnswer.TheVariants as answer
use Rattle.deferring.specs.Timer.{gone_active, gone_idle, is_active, is_deaf}
use Rattle.deferring.specs.Make.{fresh_timer}
use Rattle.deferring.specs.Tick.{is_expiry, is_spent, counted_down, ticked_as}
use Rattle.deferring.specs.Hear.{is_due}
use Rattle.deferring.specs.Reset.{reset_outcome}
use Rattle.deferring.specs.Inputs.{Input, Comes, Tick, Reset, Watch, fresh_watch, turn, turns, answer_now, events_of, Due}
use Rattle.deferring.proofs.Runs.{run_alone, refused-nothing, reset_restarts, reset_refused, judged_exactly, deaf_stays}

-- whether it is due, of a reception
abbrev pub due_now : State → Bool
due_now s = is_due s.rec s.list

-- what holds on the way: it is deaf, or active exactly if it is due
abbrev pub Follows : Watch → Type 0
Follows k = is_deaf k.timer.activity ≡ false → is_active k.timer.activity ≡ due_now k.state

-- a tick leaves it active, or makes it deaf
tick_keeps : (t : Deferred) (a : Activity) → t.activity ≡ a → is_deaf (ticked_as a t).timer.activity ≡ false
    → (is_deaf t.activity ≡ false) × (is_active (ticked_as a t).timer.activity ≡ is_active t.activity)
tick_keeps t activity.Idle e h = (h, refl)
tick_keeps t activity.Deaf e h = (h, refl)
tick_keeps t activity.Active e h = go (is_expiry t) (is_spent t) refl refl
  where
    go : (x y : Bool) → is_expiry t ≡ x → is_spent t ≡ y → (is_deaf t.activity ≡ false) × (is_active (counted_down t).timer.activity ≡ is_active t.activity)
    go true true f g = absurd (true≢false (rw (f, g) at h))
    go true false f g = rw (f, g, e) (refl, refl)
    go false y f g = rw (f, e) (refl, refl)

either_due : (due : Bool) (t : Deferred) → is_active (cond due (gone_active t) (gone_idle t)).activity ≡ due
either_due true t = refl
either_due false t = refl

turn-follows : (k : Watch) (i : Input) → Follows k → Follows (turn k i)
turn-follows k (Comes e) h = go (is_accepted k.state e) refl
  where
    go : (u : Bool) → is_accepted k.state e ≡ u → Follows (turn k (Comes e))
    go false f =
        let w = refused-nothing k e f in
        λ g. ap (λ (m : Watch). is_active m.timer.activity) w ∙ h (ap (λ (m : Watch). is_deaf m.timer.activity) (sym w) ∙ g) ∙ ap (λ (m : Watch). due_now m.state) (sym w)
    go true f = hearing (is_deaf k.timer.activity) refl
      where
        hearing : (b : Bool) → is_deaf k.timer.activity ≡ b → Follows (turn k (Comes e))
        hearing false d = λ g. (judged_exactly k e f d).0
        hearing true d = λ g. absurd (true≢false (sym (ap (λ (t : Deferred). is_deaf t.activity) (deaf_stays (Comes e ∷ []) k d tt).0 ∙ d) ∙ g))
turn-follows k Tick h = λ g. let w = tick_keeps k.timer k.timer.activity refl g in w.1 ∙ h w.0
turn-follows k Reset h = go (eqb (reset_outcome k.state.rec k.state.list).number 0) refl
  where
    go : (u : Bool) → eqb (reset_outcome k.state.rec k.state.list).number 0 ≡ u → Follows (turn k Reset)
    go true f = λ g. ap (λ (t : Deferred). is_active t.activity) (reset_restarts k f) ∙ either_due (due_now k.state) k.timer
    go false f = let w = ap (λ (m : Watch). m.timer) (reset_refused k f) in λ g. ap (λ (t : Deferred). is_active t.activity) w ∙ h (ap (λ (t : Deferred). is_deaf t.activity) (sym w) ∙ g)

pub turns_follow : (is : List Input) (k : Watch) → Follows k → Follows (turns k is)
turns_follow [] k h = h
turns_follow (i ∷ is) k h = turns_follow is (turn k i) (turn-follows k i h)

-- a count that is not 0 has an offset that passes
some-counted : (t : ℕ → Bool) (n : ℕ) → 0 < count_below t n → (x : ℕ) × (t x ≡ true)
some-counted t zero h = absurd (omega arith)
some-counted t (suc n) h = go (t n) refl (some-counted t n)
  where
    go : (b : Bool) → t n ≡ b → (0 < count_below t n → (x : ℕ) × (t x ≡ true)) → (x : ℕ) × (t x ≡ true)
    go true e i = (n, e)
    go false e i = i (rw e at h)

-- after any events of a fresh reception with room for N: due as the record says is due as the events say
module _ (w : Width) (xs : List ℕ) (N : ℕ) (size : length xs ≡ 2 * N) (few : N ≤ most_pairs) (es : List Event) where
  abbrev reached : State
  reached = run (fresh w xs) es

  octets : ltb 0 (missing_octets reached.rec reached.list) ≡ true → (x : ℕ) × Missing (fresh w xs) es x
  octets e =
      let v = some-counted (is_covered (ranges_of reached)) reached.rec.progress (ltb-true _ _ e) in
      (v.0, (missing_exact w xs N size few es v.0).0 ((covered-set (ranges_of reached) v.0).0 v.1))

  counted : (x : ℕ) → Missing (fresh w xs) es x → ltb 0 (missing_octets reached.rec reached.list) ≡ true
  counted x m = go (ltb 0 (missing_octets reached.rec reached.list)) refl
    where
      c : Covers x (ranges_of reached)
      c = (missing_exact w xs N size few es x).1 m

      go : (t : Bool) → ltb 0 (missing_octets reached.rec reached.list) ≡ t → t ≡ true
      go true e = refl
      go false e =
          let n : missing_octets reached.rec reached.list ≤ 0 = ltb-false _ _ e in
          absurd (none-counted (is_covered (ranges_of reached)) reached.rec.progress (omega (arith, n)) x (((holds w xs N size few es).exact x).0 c).0 ((covered-set (ranges_of reached) x).1 c))

  pub due_exactly : (due_now reached ≡ true) ↔ Due (fresh w xs) es
  due_exactly = (λ e. to reached.rec.sized reached.rec.missing refl refl e, from)
    where
      to : (s m : Bool) → reached.rec.sized ≡ s → reached.rec.missing ≡ m → due_now reached ≡ true → Due (fresh w xs) es
      to false m f g e = absurd (true≢false (sym (rw f at e)))
      to true true f g e = ((reached.rec.size, sym (told-size w xs es) ∙ rw f), inl (not_known (metadata_came (fresh w xs) es) (sym (mark_metadata w xs es) ∙ g)))
        where
          not_known : (c : Bool) → not c ≡ true → c ≡ false
          not_known true k = absurd (true≢false (sym k))
          not_known false k = refl
      to true false f g e = ((reached.rec.size, sym (told-size w xs es) ∙ rw f), inr (octets (rw (f, g) at e)))

      from : Due (fresh w xs) es → due_now reached ≡ true
      from v = rw (sized_of reached.rec v.0.0 (told-size w xs es ∙ v.0.1)).0 (⊎_elim waiting lacking v.1)
        where
          waiting : metadata_came (fresh w xs) es ≡ false → (reached.rec.missing || ltb 0 (missing_octets reached.rec reached.list)) ≡ true
          waiting c = rw (mark_metadata w xs es, c)

          lacking : (x : ℕ) × Missing (fresh w xs) es x → (reached.rec.missing || ltb 0 (missing_octets reached.rec reached.list)) ≡ true
          lacking v = rw (counted v.0 v.1) (or_true reached.rec.missing)

-- unless it is deaf, it is active exactly where the size was told and something is missing, metadata included
module _ (d limit : ℕ) (w : Width) (xs : List ℕ) (N : ℕ) (size : length xs ≡ 2 * N) (few : N ≤ most_pairs) (is : List Input) where
  abbrev watched : Watch
  watched = turns (fresh_watch d limit w xs) is

  pub follows : is_deaf watched.timer.activity ≡ false → is_active watched.timer.activity ≡ due_now (run (fresh w xs) (events_of is))
  follows h = turns_follow is (fresh_watch d limit w xs) (λ g. refl) h ∙ ap due_now (run_alone is (fresh_watch d limit w xs))

  pub active_exactly : is_deaf watched.timer.activity ≡ false → (is_active watched.timer.activity ≡ true) ↔ Due (fresh w xs) (events_of is)
  active_exactly h =
      let e = due_exactly w xs N size few (events_of is) in
      (λ a. e.0 (sym (follows h) ∙ a), λ v. follows h ∙ e.1 v)

-- an active timer beside any reception is due, though it was made late
abbrev Warranted : Watch → Type 0
Warranted k = is_active k.timer.activity ≡ true → due_now k.state ≡ true

deaf_or_active : (a : Activity) → is_deaf a ≡ true → is_active a ≡ true → ⊥
deaf_or_active activity.Idle d e = true≢false (sym e)
deaf_or_active activity.Active d e = true≢false (sym d)
deaf_or_active activity.Deaf d e = true≢false (sym e)

active_ticked : (t : Deferred) (a : Activity) → t.activity ≡ a → is_active (ticked_as a t).timer.activity ≡ true → is_active t.activity ≡ true
active_ticked t activity.Idle e h = h
active_ticked t activity.Active e h = rw e
active_ticked t activity.Deaf e h = h

turn_warranted : (k : Watch) (i : Input) → Warranted k → Warranted (turn k i)
turn_warranted k (Comes e) h = go (is_accepted k.state e) (is_deaf k.timer.activity) refl refl
  where
    go : (u b : Bool) → is_accepted k.state e ≡ u → is_deaf k.timer.activity ≡ b → Warranted (turn k (Comes e))
    go false b f d = let w = refused-nothing k e f in λ g. ap (λ (m : Watch). due_now m.state) w ∙ h (ap (λ (m : Watch). is_active m.timer.activity) (sym w) ∙ g)
    go true false f d = λ g. sym (judged_exactly k e f d).0 ∙ g
    go true true f d = λ g. absurd (deaf_or_active (turn k (Comes e)).timer.activity (ap (λ (t : Deferred). is_deaf t.activity) (deaf_stays (Comes e ∷ []) k d tt).0 ∙ d) g)
turn_warranted k Tick h = λ g. h (active_ticked k.timer k.timer.activity refl g)
turn_warranted k Reset h = go (eqb (reset_outcome k.state.rec k.state.list).number 0) refl
  where
    go : (u : Bool) → eqb (reset_outcome k.state.rec k.state.list).number 0 ≡ u → Warranted (turn k Reset)
    go true f = λ g. sym (either_due (due_now k.state) k.timer) ∙ ap (λ (t : Deferred). is_active t.activity) (sym (reset_restarts k f)) ∙ g
    go false f = λ g. h (ap (λ (m : Watch). is_active m.timer.activity) (sym (reset_refused k f)) ∙ g)

turns_warranted : (is : List Input) (k : Watch) → Warranted k → Warranted (turns k is)
turns_warranted [] k h = h
turns_warranted (i ∷ is) k h = turns_warranted is (turn k i) (turn_warranted k i h)

quiet_unless : (t : Deferred) (a : Activity) → (is_active a ≡ true → ⊥) → (ticked_as a t).answer ≡ answer.Quiet
quiet_unless t activity.Idle n = refl
quiet_unless t activity.Active n = absurd (n refl)
quiet_unless t activity.Deaf n = refl

-- whenever it was made: where it is not due, a tick says nothing
pub quiet_not_due : (d limit : ℕ) (s : State) (is : List Input) → due_now (run s (events_of is)) ≡ false
    → answer_now (turns (record { timer = fresh_timer d limit; state = s }) is) ≡ answer.Quiet
quiet_not_due d limit s is n =
    let k : Watch = turns (record { timer = fresh_timer d limit; state = s }) is in
    quiet_unless k.timer k.timer.activity (λ a. true≢false (sym (turns_warranted is (record { timer = fresh_timer d limit; state = s }) (λ g. absurd (true≢false (sym g))) a)
    ∙ ap due_now (run_alone is (record { timer = fresh_timer d limit; state = s })) ∙ n))

-- so a transfer with nothing missing, metadata known, never asks
pub never_asks : (d limit : ℕ) (w : Width) (xs : List ℕ) (N : ℕ) → length xs ≡ 2 * N → N ≤ most_pairs → (is : List Input)
    → metadata_came (fresh w xs) (events_of is) ≡ true → ((x : ℕ) → Missing (fresh w xs) (events_of is) x → ⊥)
    → answer_now (turns (fresh_watch d limit w xs) is) ≡ answer.Quiet
never_asks d limit w xs N size few is known none = quiet_not_due d limit (fresh w xs) is (go (due_now (run (fresh w xs) (events_of is))) refl)
  where
    go : (t : Bool) → due_now (run (fresh w xs) (events_of is)) ≡ t → t ≡ false
    go true e = absurd (⊎_elim (λ c. true≢false (sym known ∙ c)) (λ v. none v.0 v.1) ((due_exactly w xs N size few (events_of is)).0 e).1)
    go false e = refl
