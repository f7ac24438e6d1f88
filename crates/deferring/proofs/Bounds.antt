-- From make on, whatever comes: d and the limit stay, the counter never passes the limit, and 1 to d ticks are left exactly while active.
use mathlib.Core.Path.{◌≡◌, refl}
use mathlib.Core.Bool.{Bool, true, false, cond}
use mathlib.Core.List.{List, [], ◌∷◌}
use Prim.Native.Nat.{ℕ, ◌≤◌, ◌<◌}
use native.Mathlib.Omega.{arith}
use lib.Dec.{eqb}
use borrow.Author.Tests.{leb-true, leb-false, eqb-false}
use Rattle.ranges.proofs.Test.{or_false}
use Rattle.reception.specs.declared.Reception.{Reception}
use Rattle.reception.specs.History.{Event, State, is_accepted, step}
use Rattle.deferring.specs.declared.Activity.{Activity}
use Rattle.deferring.specs.declared.Activity.TheVariants as activity
use Rattle.deferring.specs.declared.Deferred.{Deferred}
use Rattle.deferring.specs.Timer.{gone_active, gone_idle}
use Rattle.deferring.specs.Make.{is_outside, is_bad_timer, most_ticks, most_asks, fresh_timer}
use Rattle.deferring.specs.Tick.{is_expiry, is_spent, counted_down, ticked_as, ticked}
use Rattle.deferring.specs.Hear.{is_due, is_news, judged_as, heard}
use Rattle.deferring.specs.Reset.{reset_outcome, reset_timer}
use Rattle.deferring.specs.Inputs.{Input, Comes, Tick, Reset, Watch, turn, turns}
use Rattle.deferring.specs.Bounds.{Stands, InBounds}

-- a timer that make makes has at least one tick
pub some-ticks : (d limit : ℕ) → is_bad_timer d limit ≡ false → 0 < d
some-ticks d limit e =
    let p = or_false (is_outside most_ticks d) (is_outside most_asks limit) e in
    let q : d ≡ 0 → ⊥ = eqb-false d 0 (or_false (eqb d 0) _ p.0).0 in
    omega arith

module _ (d limit : ℕ) (some : 0 < d) where
  active-in : (t : Deferred) → InBounds d limit t → InBounds d limit (gone_active t)
  active-in t h = let p = h.period in record { period = p; most = h.most; stands = (omega arith, omega arith, omega arith) }

  idle-in : (t : Deferred) → InBounds d limit t → InBounds d limit (gone_idle t)
  idle-in t h = record { period = h.period; most = h.most; stands = (refl, refl) }

  either-in : (t : Deferred) → InBounds d limit t → (due : Bool) → InBounds d limit (cond due (gone_active t) (gone_idle t))
  either-in t h true = active-in t h
  either-in t h false = idle-in t h

  judged-in : (t : Deferred) → InBounds d limit t → (a : Activity) (due news : Bool) → InBounds d limit (judged_as a due news t)
  judged-in t h activity.Idle due news = either-in t h due
  judged-in t h activity.Active true true = active-in t h
  judged-in t h activity.Active true false = h
  judged-in t h activity.Active false news = idle-in t h
  judged-in t h activity.Deaf due news = h

  heard-in : (t : Deferred) → InBounds d limit t → (s : State) (e : Event) → InBounds d limit (heard t s e)
  heard-in t h s e = go (is_accepted s e) refl
    where
      go : (u : Bool) → is_accepted s e ≡ u → InBounds d limit (heard t s e)
      go true f = rw f (judged-in t h t.activity (is_due (step s e).rec (step s e).list) (is_news s e))
      go false f = rw f h

  reset-in : (t : Deferred) → InBounds d limit t → (rec : Reception) (xs : List ℕ) → InBounds d limit (reset_timer t rec xs)
  reset-in t h rec xs = go (eqb (reset_outcome rec xs).number 0) refl
    where
      go : (u : Bool) → eqb (reset_outcome rec xs).number 0 ≡ u → InBounds d limit (reset_timer t rec xs)
      go true f = rw f (either-in t h (is_due rec xs))
      go false f = rw f h

  counted-in : (t : Deferred) → InBounds d limit t → t.activity ≡ activity.Active → InBounds d limit (counted_down t).timer
  counted-in t h e = go (is_expiry t) (is_spent t) refl refl
    where
      now : Stands d limit activity.Active t.left t.counter
      now = rw e at h.stands

      go : (x y : Bool) → is_expiry t ≡ x → is_spent t ≡ y → InBounds d limit (counted_down t).timer
      go true true f g =
          let k : t.limit ≤ t.counter = leb-true _ _ g in
          rw (f, g) (record { period = h.period; most = h.most; stands = (refl, omega (arith, k, now.2, h.most)) })
      go true false f g =
          let k : t.counter < t.limit = leb-false _ _ g in
          rw (f, g) (record { period = h.period; most = h.most; stands = (omega (arith, h.period), omega (arith, h.period), omega (arith, k, h.most)) })
      go false y f g =
          let k : 1 < t.left = leb-false _ _ f in
          rw f (record { period = h.period; most = h.most; stands = (omega arith, omega (arith, now.1), now.2) })

  ticked-in : (t : Deferred) → InBounds d limit t → InBounds d limit (ticked t).timer
  ticked-in t h = go t.activity refl
    where
      go : (a : Activity) → t.activity ≡ a → InBounds d limit (ticked_as a t).timer
      go activity.Idle e = h
      go activity.Active e = counted-in t h e
      go activity.Deaf e = h

  pub turn_in : (k : Watch) (i : Input) → InBounds d limit k.timer → InBounds d limit (turn k i).timer
  turn_in k (Comes e) h = heard-in k.timer h k.state e
  turn_in k Tick h = ticked-in k.timer h
  turn_in k Reset h = reset-in k.timer h k.state.rec k.state.list

  turns-in : (is : List Input) (k : Watch) → InBounds d limit k.timer → InBounds d limit (turns k is).timer
  turns-in [] k h = h
  turns-in (i ∷ is) k h = turns-in is (turn k i) (turn_in k i h)

-- from make on, beside any reception
pub always_in_bounds : (d limit : ℕ) → is_bad_timer d limit ≡ false → (s : State) (is : List Input)
    → InBounds d limit (turns (record { timer = fresh_timer d limit; state = s }) is).timer
always_in_bounds d limit e s is =
    turns-in d limit (some-ticks d limit e) is (record { timer = fresh_timer d limit; state = s }) (record { period = refl; most = refl; stands = (refl, refl) })
