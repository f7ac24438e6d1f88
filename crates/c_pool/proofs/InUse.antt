-- An accepted event is one of a transfer in use, so of one of the eight; what is lent under acceptance and under refusal.
use mathlib.Core.Path.{◌≡◌, sym, ap}
use Rattle.std.specs.Prelude.{Result, Ok, Err, is_err}
use mathlib.Core.Bool.{Bool, true, false, cond, true≢false}
use mathlib.Core.List.{List}
use Prim.Native.Nat.{ℕ, ◌≤◌, ◌<◌}
use native.Mathlib.Omega.{arith}
use lib.Dec.{eqb}
use Rattle.outcomes.specs.Outcome.{Outcome, lent}
use Rattle.outcomes.specs.Answered.{answered}
use Rattle.outcomes.specs.declared.Refusal.{Refusal}
use Rattle.outcomes.proofs.FirstOf.{first-accepted}
use Rattle.reception.specs.History.{Event, outcome}
use Rattle.pooling.specs.declared.Pool.{Pool}
use Rattle.pooling.specs.Pool.{most_transfers}
use Rattle.pooling.specs.Share.{pool_checks, own_state}
use Rattle.pooling.specs.Events.{event_outcome}
use Rattle.pooling.proofs.Own.{known}

pub in_use : (p : Pool) (xs : List ℕ) (i : ℕ) (e : Event) → eqb (event_outcome p xs i e).number 0 ≡ true → i < most_transfers
in_use p xs i e t =
    let n = (first-accepted (pool_checks p xs i) (outcome (own_state p xs i) e) t).0 in
    let k = known p xs i n.0 in
    let f : p.used ≤ most_transfers = k.0.few in
    let u : i < p.used = k.1 in
    omega (arith, f, u)

pub taken : {A : Type 0} (o : Outcome) (new old : A) → eqb o.number 0 ≡ true → new ≡ lent o new old
taken o new old t = sym (ap (λ (b : Bool). cond b new old) t)

pub left : {A : Type 0} (o : Outcome) (new old : A) → eqb o.number 0 ≡ false → old ≡ lent o new old
left o new old f = sym (ap (λ (b : Bool). cond b new old) f)

-- an answer that is no refusal is an accepted one
pub in_use_by : {A : Type 0} (values : A → List ℕ) (r : Result A Refusal) (p : Pool) (xs : List ℕ) (i : ℕ) (e : Event)
    → answered values r ≡ event_outcome p xs i e → is_err r ≡ false → i < most_transfers
in_use_by values (Ok a) p xs i e h k = in_use p xs i e (ap (λ (o : Outcome). eqb o.number 0) (sym h))
in_use_by values (Err r) p xs i e h k = absurd (true≢false k)
