-- The answer to each tick after the timer became active, where no event is accepted and no reset made.
use mathlib.Core.Path.{◌≡◌, refl, sym, ap, ◌∙◌}
use mathlib.Core.Bool.{Bool, true, false, cond, true≢false}
use mathlib.Core.List.{List, [], ◌∷◌}
use mathlib.Core.Logic.{◌⊎◌, inl, inr}
use Prim.Native.Nat.{ℕ, zero, suc, ◌+◌, ◌-◌, ◌*◌, ◌/◌, ◌%◌, ◌≤◌, ◌<◌}
use native.Mathlib.Nat.{mod-lt, div-add-mod', mod-eq_of_lt, zero-div}
use native.Mathlib.Decide.{dec_lt}
use native.Mathlib.Omega.{arith}
use lib.Arith.{digits_mod, digits_div}
use lib.Dec.{leb, eqb}
use borrow.Author.Tests.{le-leb, lt-leb, eq-eqb, ne_eqb, eqb-true, leb-true}
use Rattle.deferring.specs.declared.Activity.{Activity}
use Rattle.deferring.specs.declared.Activity.TheVariants as activity
use Rattle.deferring.specs.declared.Deferred.{Deferred}
use Rattle.deferring.specs.declared.tick.TickAnswer.{TickAnswer}
use Rattle.deferring.specs.declared.tick.TickAnswer.TheVariants as answer
use Rattle.deferring.specs.declared.tick.TickDone.{TickDone}
use Rattle.deferring.specs.Timer.{standing, gone_active}
use Rattle.deferring.specs.Tick.{answering, ticked_as, ticked}
use Rattle.deferring.specs.Inputs.{Input, Comes, Tick, Reset, Watch, turn, turns, answer_now, ticks, ticks_of, NothingTaken, answer_at}

-- quotient and remainder of the next number
module _ (n d : ℕ) (h : 0 < d) where
  parts : n / d * d + n % d ≡ n
  parts = div-add-mod' n d

  abbrev Next : ℕ → ℕ → Type 0
  Next q r = ((suc (n % d) ≡ d) × (q ≡ suc (n / d)) × (r ≡ 0)) ⊎ ((suc (n % d) < d) × (q ≡ n / d) × (r ≡ suc (n % d)))

  next : Next (suc n / d) (suc n % d)
  next = go (dec_lt (suc (n % d)) d)
    where
      go : Dec (suc (n % d) < d)
          → ((suc (n % d) ≡ d) × (suc n / d ≡ suc (n / d)) × (suc n % d ≡ 0)) ⊎ ((suc (n % d) < d) × (suc n / d ≡ n / d) × (suc n % d ≡ suc (n % d)))
      go (yes l) =
          let s = parts in
          let t : n / d * d + suc (n % d) ≡ suc n = omega arith in
          inr (l, ap (λ (x : ℕ). x / d) (sym t) ∙ digits_div (n / d) l, ap (λ (x : ℕ). x % d) (sym t) ∙ digits_mod (n / d) l)
      go (no l) =
          let s = parts in
          let m : n % d < d = mod-lt n h in
          let e : suc (n % d) ≡ d = omega arith in
          let t : suc (n / d) * d + 0 ≡ suc n = omega arith in
          inl (e, ap (λ (x : ℕ). x / d) (sym t) ∙ digits_div (suc (n / d)) h, ap (λ (x : ℕ). x % d) (sym t) ∙ digits_mod (suc (n / d)) h)

module _ (t : Deferred) (h : 0 < t.period) where
  -- active after q countdowns and r ticks of the next; deaf
  abbrev on : ℕ → ℕ → Deferred
  on q r = standing t activity.Active (t.period - r) q

  abbrev off : Deferred
  off = standing t activity.Deaf 0 t.limit

  abbrev at : ℕ → ℕ → Deferred
  at q r = cond (leb q t.limit) (on q r) off

  abbrev answer_of : ℕ → ℕ → TickAnswer
  answer_of q r = cond (eqb r 0) (cond (leb q t.limit) answer.Ask (cond (eqb q (t.limit + 1)) answer.Limit answer.Quiet)) answer.Quiet

  same-on : (l q m p : ℕ) → l ≡ m → q ≡ p → standing t activity.Active l q ≡ standing t activity.Active m p
  same-on l q m p e f = rw (e, f)

  one-tick : (q r p s : ℕ) → r < t.period
      → ((suc r ≡ t.period) × (p ≡ suc q) × (s ≡ 0)) ⊎ ((suc r < t.period) × (p ≡ q) × (s ≡ suc r))
      → ticked (at q r) ≡ answering (answer_of p s) (at p s)
  one-tick q r p s l n = go (sides (dec_lt q t.limit) (dec_lt t.limit q)) n
    where
      sides : Dec (q < t.limit) → Dec (t.limit < q) → (q < t.limit) ⊎ ((q ≡ t.limit) ⊎ (t.limit < q))
      sides (yes a) b = inl a
      sides (no a) (yes b) = inr (inr b)
      sides (no a) (no b) = inr (inl (omega arith))

      go : (q < t.limit) ⊎ ((q ≡ t.limit) ⊎ (t.limit < q))
          → ((suc r ≡ t.period) × (p ≡ suc q) × (s ≡ 0)) ⊎ ((suc r < t.period) × (p ≡ q) × (s ≡ suc r))
          → ticked (at q r) ≡ answering (answer_of p s) (at p s)
      go (inl a) (inl e) =
          rw (le-leb q t.limit (omega arith), le-leb (t.period - r) 1 (omega (arith, e.0)), lt-leb t.limit q a, e.1, e.2, le-leb (suc q) t.limit (omega arith))
          (ap (answering answer.Ask) (same-on t.period (q + 1) (t.period - 0) (suc q) (omega arith) (omega arith)))
      go (inr (inl k)) (inl e) =
          let full : leb t.limit t.limit ≡ true = le-leb t.limit t.limit (omega arith) in
          rw (k, full, le-leb (t.period - r) 1 (omega (arith, e.0)), e.1, e.2, k, lt-leb (suc t.limit) t.limit (omega arith), eq-eqb (suc t.limit) (t.limit + 1) (omega arith), full)
      go (inl a) (inr e) =
          rw (le-leb q t.limit (omega arith), lt-leb (t.period - r) 1 (omega (arith, e.0)), e.1, e.2, ne_eqb (suc r) 0 (λ x. omega arith), le-leb q t.limit (omega arith))
          (ap (answering answer.Quiet) (same-on (t.period - r - 1) q (t.period - suc r) q (omega arith) refl))
      go (inr (inl k)) (inr e) =
          rw (le-leb q t.limit (omega arith), lt-leb (t.period - r) 1 (omega (arith, e.0)), e.1, e.2, ne_eqb (suc r) 0 (λ x. omega arith), le-leb q t.limit (omega arith))
          (ap (answering answer.Quiet) (same-on (t.period - r - 1) q (t.period - suc r) q (omega arith) refl))
      go (inr (inr b)) (inl e) =
          rw (lt-leb q t.limit b, e.1, e.2, lt-leb (suc q) t.limit (omega arith), ne_eqb (suc q) (t.limit + 1) (λ x. omega arith))
      go (inr (inr b)) (inr e) = rw (lt-leb q t.limit b, e.1, e.2, ne_eqb (suc r) 0 (λ x. omega arith), lt-leb q t.limit b)

  ticks-last : (n : ℕ) (u : Deferred) → ticks (suc n) u ≡ (ticked (ticks n u)).timer
  ticks-last zero u = refl
  ticks-last (suc n) u = ticks-last n (ticked u).timer

  -- where the timer stands after n ticks
  after-ticks : (n : ℕ) → ticks n (gone_active t) ≡ at (n / t.period) (n % t.period)
  after-ticks zero =
      let q : 0 / t.period ≡ 0 = zero-div t.period in
      let r : 0 % t.period ≡ 0 = mod-eq_of_lt h in
      rw (q, r, le-leb 0 t.limit (omega arith)) (same-on t.period 0 (t.period - 0) 0 (omega arith) refl)
  after-ticks (suc n) =
      ticks-last n (gone_active t)
      ∙ ap (λ (u : Deferred). (ticked u).timer) (after-ticks n)
      ∙ ap (λ (x : TickDone). x.timer) (one-tick (n / t.period) (n % t.period) (suc n / t.period) (suc n % t.period) (mod-lt n h) (next n t.period h))

  -- tick number n + 1 of ticks alone
  pub answer_after : (n : ℕ) → (ticked (ticks n (gone_active t))).answer ≡ answer_at t.period t.limit (suc n)
  answer_after n =
      ap (λ (u : Deferred). (ticked u).answer) (after-ticks n)
      ∙ ap (λ (x : TickDone). x.answer) (one-tick (n / t.period) (n % t.period) (suc n / t.period) (suc n % t.period) (mod-lt n h) (next n t.period h))

-- where nothing is taken, only the ticks move the timer
pub only-ticks : (is : List Input) (k : Watch) → NothingTaken k is → (turns k is).timer ≡ ticks (ticks_of is) k.timer
only-ticks [] k n = refl
only-ticks (Comes e ∷ is) k n = only-ticks is (turn k (Comes e)) n.1 ∙ rw n.0
only-ticks (Tick ∷ is) k n = only-ticks is (turn k Tick) n
only-ticks (Reset ∷ is) k n = absurd n

-- idle, it waits: one that is made after the EOF stays idle until an event is accepted or a reset made
pub idle_waits : (k : Watch) → k.timer.activity ≡ activity.Idle → (is : List Input) → NothingTaken k is
    → ((turns k is).timer ≡ k.timer) × (answer_now (turns k is) ≡ answer.Quiet)
idle_waits k e is n = let w = only-ticks is k n ∙ still (ticks_of is) in (w, ap (λ (u : Deferred). (ticked u).answer) w ∙ ap (λ (x : TickDone). x.answer) quiet)
  where
    quiet : ticked k.timer ≡ answering answer.Quiet k.timer
    quiet = ap (λ (a : Activity). ticked_as a k.timer) e

    still : (m : ℕ) → ticks m k.timer ≡ k.timer
    still zero = refl
    still (suc m) = ap (λ (x : TickDone). ticks m x.timer) quiet ∙ still m

-- after the timer became active, and if no event is accepted and no reset made, tick number n + 1 answers: ask at d, 2d, …, limit × d;
-- the limit at d × (limit + 1); else nothing, ever
pub asks_exactly : (k : Watch) → k.timer ≡ gone_active k.timer → 0 < k.timer.period → (is : List Input) → NothingTaken k is
    → answer_now (turns k is) ≡ answer_at k.timer.period k.timer.limit (suc (ticks_of is))
asks_exactly k e h is n =
    ap (λ (u : Deferred). (ticked u).answer) (only-ticks is k n ∙ ap (ticks (ticks_of is)) e)
    ∙ answer_after k.timer h (ticks_of is)

multiple : (d m : ℕ) → 0 < d → ((d * m) / d ≡ m) × ((d * m) % d ≡ 0)
multiple d m h =
    let e : m * d + 0 ≡ d * m = omega arith in
    (ap (λ (x : ℕ). x / d) (sym e) ∙ digits_div m h, ap (λ (x : ℕ). x % d) (sym e) ∙ digits_mod m h)

-- so the report comes at tick d × (limit + 1)
pub reported-at : (d limit : ℕ) → 0 < d → answer_at d limit (d * (limit + 1)) ≡ answer.Limit
reported-at d limit h =
    let w = multiple d (limit + 1) h in
    rw (w.0, w.1, lt-leb (limit + 1) limit (omega arith), eq-eqb (limit + 1) (limit + 1) refl)

-- and it asks at each multiple of d up to limit × d
pub asked-at : (d limit m : ℕ) → 0 < d → m ≤ limit → answer_at d limit (d * m) ≡ answer.Ask
asked-at d limit m h l = let w = multiple d m h in rw (w.0, w.1, le-leb m limit l)

-- the report comes at no other tick
abbrev is_report : TickAnswer → Bool
is_report answer.Quiet = false
is_report answer.Ask = false
is_report answer.Limit = true

pub reported-once : (d limit n : ℕ) → answer_at d limit n ≡ answer.Limit → n ≡ d * (limit + 1)
reported-once d limit n e = go (eqb (n % d) 0) (leb (n / d) limit) (eqb (n / d) (limit + 1)) refl refl refl
  where
    go : (a b c : Bool) → eqb (n % d) 0 ≡ a → leb (n / d) limit ≡ b → eqb (n / d) (limit + 1) ≡ c → n ≡ d * (limit + 1)
    go false b c f g k = let w : answer.Quiet ≡ answer.Limit = rw f at e in absurd (true≢false (sym (ap is_report w)))
    go true true c f g k = let w : answer.Ask ≡ answer.Limit = rw (f, g) at e in absurd (true≢false (sym (ap is_report w)))
    go true false false f g k = let w : answer.Quiet ≡ answer.Limit = rw (f, g, k) at e in absurd (true≢false (sym (ap is_report w)))
    go true false true f g k =
        let r : n % d ≡ 0 = eqb-true _ _ f in
        let q : n / d ≡ limit + 1 = eqb-true _ _ k in
        let s : n / d * d + n % d ≡ n = div-add-mod' n d in
        let m : n / d * d ≡ (limit + 1) * d = ap (λ (x : ℕ). x * d) q in
        omega arith

-- nor does it ask at another
abbrev is_asking : TickAnswer → Bool
is_asking answer.Quiet = false
is_asking answer.Ask = true
is_asking answer.Limit = false

pub asked-only : (d limit n : ℕ) → answer_at d limit n ≡ answer.Ask → (n ≡ d * (n / d)) × (n / d ≤ limit)
asked-only d limit n e = go (eqb (n % d) 0) (leb (n / d) limit) (eqb (n / d) (limit + 1)) refl refl refl
  where
    go : (a b c : Bool) → eqb (n % d) 0 ≡ a → leb (n / d) limit ≡ b → eqb (n / d) (limit + 1) ≡ c → (n ≡ d * (n / d)) × (n / d ≤ limit)
    go false b c f g k = let w : answer.Quiet ≡ answer.Ask = rw f at e in absurd (true≢false (sym (ap is_asking w)))
    go true false true f g k = let w : answer.Limit ≡ answer.Ask = rw (f, g, k) at e in absurd (true≢false (sym (ap is_asking w)))
    go true false false f g k = let w : answer.Quiet ≡ answer.Ask = rw (f, g, k) at e in absurd (true≢false (sym (ap is_asking w)))
    go true true c f g k =
        let r : n % d ≡ 0 = eqb-true _ _ f in
        let s : n / d * d + n % d ≡ n = div-add-mod' n d in
        (omega arith, leb-true _ _ g)
