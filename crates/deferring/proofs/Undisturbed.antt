-- Events that are no news, while something is still missing, delay nothing: the ticks answer as if those events had not come.
use mathlib.Core.Path.{◌≡◌, refl, ap, ◌∙◌}
use mathlib.Core.Bool.{Bool, true, false, true≢false}
use mathlib.Core.List.{List, [], ◌∷◌}
use mathlib.Core.Logic.{◌⊎◌, inl, inr}
use Prim.Native.Nat.{suc, ◌<◌}
use Rattle.reception.specs.History.{Event, State, is_accepted, step}
use Rattle.deferring.specs.declared.Activity.{Activity}
use Rattle.deferring.specs.declared.Activity.TheVariants as activity
use Rattle.deferring.specs.declared.Deferred.{Deferred}
use Rattle.deferring.specs.Timer.{gone_active}
use Rattle.deferring.specs.Tick.{is_expiry, is_spent, counted_down, ticked_as, ticked}
use Rattle.deferring.specs.Hear.{is_due, is_news, judged_as, heard}
use Rattle.deferring.specs.Inputs.{Input, Comes, Tick, Reset, Watch, turn, turns, answer_now, ticks, ticks_of, Undisturbed, answer_at}
use Rattle.deferring.proofs.Ticking.{answer_after}

abbrev is_idle : Activity → Bool
is_idle activity.Idle = true
is_idle activity.Active = false
is_idle activity.Deaf = false

-- a tick makes no timer idle
tick_not_idle : (t : Deferred) (a : Activity) → is_idle a ≡ false → t.activity ≡ a → is_idle (ticked_as a t).timer.activity ≡ false
tick_not_idle t activity.Idle n e = absurd (true≢false n)
tick_not_idle t activity.Deaf n e = ap is_idle e
tick_not_idle t activity.Active n e = go (is_expiry t) (is_spent t) refl refl
  where
    go : (x y : Bool) → is_expiry t ≡ x → is_spent t ≡ y → is_idle (counted_down t).timer.activity ≡ false
    go true true f g = rw (f, g)
    go true false f g = rw (f, g)
    go false y f g = rw f

-- no news leaves a timer that is not idle as it is, while it stays due
same-heard : (t : Deferred) (s : State) (e : Event) → is_idle t.activity ≡ false
    → (is_accepted s e ≡ false) ⊎ ((is_news s e ≡ false) × (is_due (step s e).rec (step s e).list ≡ true)) → heard t s e ≡ t
same-heard t s e n (inl f) = rw f
same-heard t s e n (inr w) = go (is_accepted s e) refl
  where
    quiet : (a : Activity) → is_idle a ≡ false → judged_as a true false t ≡ t
    quiet activity.Idle m = absurd (true≢false m)
    quiet activity.Active m = refl
    quiet activity.Deaf m = refl

    go : (u : Bool) → is_accepted s e ≡ u → heard t s e ≡ t
    go true f = rw (f, w.0, w.1) (quiet t.activity n)
    go false f = rw f

undisturbed_ticks : (is : List Input) (k : Watch) → is_idle k.timer.activity ≡ false → Undisturbed k is → (turns k is).timer ≡ ticks (ticks_of is) k.timer
undisturbed_ticks [] k n u = refl
undisturbed_ticks (Comes e ∷ is) k n u =
    let same = same-heard k.timer k.state e n u.0 in
    undisturbed_ticks is (turn k (Comes e)) (ap (λ (t : Deferred). is_idle t.activity) same ∙ n) u.1 ∙ ap (ticks (ticks_of is)) same
undisturbed_ticks (Tick ∷ is) k n u = undisturbed_ticks is (turn k Tick) (tick_not_idle k.timer k.timer.activity n refl) u
undisturbed_ticks (Reset ∷ is) k n u = absurd u

-- so after the timer became active each tick answers as `asks_exactly` says, whatever comes that is no news
pub asks_through : (k : Watch) → k.timer ≡ gone_active k.timer → 0 < k.timer.period → (is : List Input) → Undisturbed k is
    → answer_now (turns k is) ≡ answer_at k.timer.period k.timer.limit (suc (ticks_of is))
asks_through k e h is u =
    ap (λ (t : Deferred). (ticked t).answer) (undisturbed_ticks is k (ap (λ (t : Deferred). is_idle t.activity) e) u ∙ ap (ticks (ticks_of is)) e)
    ∙ answer_after k.timer h (ticks_of is)
