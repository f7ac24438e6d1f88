-- `pool_data_event` meets its contract: each answer is that of the checks in order, and the pool and the list are as they were, or as the event
-- leaves them.
use Rattle.std.specs.Prelude.{Option, Result, Ok, Err, ok_or}
use mathlib.Core.Path.{◌≡◌, refl, ap₂, ◌∙◌}
use mathlib.Core.Bool.{Bool, true, false, cond}
use mathlib.Core.List.{List, [], ◌∷◌, ◌++◌}
use Prim.Native.Nat.{ℕ, ◌+◌, max}
use native.Mathlib.Omega.{arith}
use borrow.Author.Tests.{ltb-false}
use Rattle.ranges.specs.Range.{Range}
use Rattle.ranges.specs.Store.{capacity}
use Rattle.ranges.specs.Inner.Cut.{cut_answer}
use Rattle.outcomes.specs.Outcome.{accepted}
use Rattle.outcomes.specs.Refusal.{refusing}
use Rattle.outcomes.specs.Checks.{Check, first_of}
use Rattle.outcomes.specs.declared.Refusal.{Refusal}
use Rattle.outcomes.specs.declared.Refusal.TheVariants as refusal
use Rattle.outcomes.proofs.Answered.{handed_on}
use Rattle.reception.specs.declared.Reception.{Reception}
use Rattle.reception.specs.Record.{moved}
use Rattle.reception.specs.Data.{largest_number, received_values, data_ranges, data_checks, room_outcome}
use Rattle.reception.specs.History.{Data}
use Rattle.reception.proofs.data.Accepted.{Checked, checked}
use Rattle.pooling.specs.declared.Pool.{Pool}
use Rattle.pooling.specs.Pool.{record_at, with_record}
use Rattle.pooling.specs.Share.{pool_checks, own_list}
use Rattle.pooling.proofs.Ends.{Ready, Ends, data_full, data-taken}
use Rattle.resizing.specs.declared.inner.place.Place.{Place}
use Rattle.resizing.specs.Inner.{ranges_at, room_at, cut_at}
use Rattle.sharing.proofs.Numbers.{Numbers, numbers}
use Rattle.pool.specs.Inner.{place_of}
use Rattle.pool.proofs.InPool.{passed, split, refused, lies, free, whole, few, no_room, room}
use Rattle.pool.proofs.data.pool_data_event.Goals as goal

module _ (p : Pool) (xs : List ℕ) (i o z : ℕ) where
  abbrev rec : Reception
  rec = record_at p i

  abbrev checks : List Check
  checks = data_checks rec (own_list p xs i) o z

  module _ (h : accepted [] ≡ first_of (pool_checks p xs i ++ checks) (accepted [])) where
    able : Ready p xs i
    able = (split p xs i checks h).0

    known : Numbers p xs i
    known = numbers p xs i able

    fine : Checked rec (own_list p xs i) o z
    fine = checked rec (own_list p xs i) o z (split p xs i checks h).1

    abbrev leaves : List Range → List Range
    leaves = data_ranges rec.missing rec.progress o (o + z)

    -- what the change of the ranges answers decides
    module _ (w : Place) (u : Option ℕ) (l : List ℕ) (e : w ≡ place_of p (capacity xs) i) (value : u ≡ cut_answer (room_at w) (leaves (ranges_at w xs)))
        (list_after : l ≡ cut_at (room_at w) w.at w.count w.total (leaves (ranges_at w xs)) xs) where
      full : (q : Refusal) → ◌≡◌ {A = Result ℕ Refusal} (Err q) (ok_or u refusal.StoreFull) → Ends p xs i (Data o z) (refusing q) p l
      full q f =
          let n = no_room p xs i able leaves u l (rw e at value) (rw e at list_after) q f in
          let k = data_full p xs i o z (passed p xs i checks h) n.1.0 in
          (n.0 ∙ k.0, (k.1.0, n.1.1 ∙ k.1.1))

      taken : (n k : ℕ) (m : Bool) → rec.missing ≡ m → k ≡ max rec.progress (o + z) → ◌≡◌ {A = Result ℕ Refusal} (Ok n) (ok_or u refusal.StoreFull)
          → Ends p xs i (Data o z) (accepted (cond m (0 ∷ []) (1 ∷ []))) (with_record p i (moved rec k n)) l
      taken n k m g t f =
          let r = room p xs i able leaves u l (rw e at value) (rw e at list_after) n f in
          let a = data-taken p xs i o z (passed p xs i checks h) m g r.0 in
          (a.0, (ap₂ (λ (k n : ℕ). with_record p i (moved rec k n)) t r.1.0 ∙ a.1.0, r.1.1 ∙ a.1.1))

pub returns-in_err-pool_data_checks : goal.returns-in_err-pool_data_checks
returns-in_err-pool_data_checks c =
    let a = c.args in
    let e = c.in_err-pool_data_checks in
    let p = a.pool.now in
    let w = refused p a.list.now a.i (checks p a.list.now a.i a.offset a.length) (Data a.offset a.length)
    (room_outcome (record_at p a.i) (own_list p a.list.now a.i) a.offset a.length) e.field-0.0 refl e.ensures in
    (handed_on received_values c.from_residual.result e.field-0.0 c.from_residual.ensures.1 ∙ w.0, w.1)

pub offset_bounds-pool-i : goal.offset_bounds-pool-i
offset_bounds-pool-i c = let a = c.args in let n = known a.pool.now a.list.now a.i a.offset a.length c.in_ok-pool_data_checks.ensures in omega (arith, n.few, n.known)

pub bounds-pool-i : goal.bounds-pool-i
bounds-pool-i c = let a = c.args in let n = known a.pool.now a.list.now a.i a.offset a.length c.in_ok-pool_data_checks.ensures in omega (arith, n.few, n.known)

pub place-place-requires-clause-known : goal.place-place-requires-clause-known
place-place-requires-clause-known c =
    let a = c.args in let n = known a.pool.now a.list.now a.i a.offset a.length c.in_ok-pool_data_checks.ensures in (n.known, n.few)

pub place-place-requires-clause-sums : goal.place-place-requires-clause-sums
place-place-requires-clause-sums c =
    let a = c.args in let n = known a.pool.now a.list.now a.i a.offset a.length c.in_ok-pool_data_checks.ensures in (n.ends, (n.all, n.claims))

pub overflow_add-end : goal.overflow_add-end
overflow_add-end c =
    let a = c.args in
    let k = fine a.pool.now a.list.now a.i a.offset a.length c.in_ok-pool_data_checks.ensures in
    omega (arith, ltb-false largest_number (a.offset + a.length) k.short)

pub change_in-left-requires : goal.change_in-left-requires
change_in-left-requires c =
    let a = c.args in
    let h = c.in_ok-pool_data_checks.ensures in
    let p = a.pool.now in
    let xs = a.list.now in
    let r = able p xs a.i a.offset a.length h in
    let k = fine p xs a.i a.offset a.length h in
    let n : (a.length ≡ 0 → ⊥) = k.some in
    rw c.place-place.ensures (record {
      lies = (lies p xs a.i r, omega (arith, n));
      coalesced = whole p xs a.i r k.passed;
      few = few p xs a.i r k.passed;
      free = free p xs a.i r;
    })

pub returns-in_err-count : goal.returns-in_err-count
returns-in_err-count c =
    let a = c.args in
    let d = c.change_in-left in
    let e = c.in_err-count in
    let w = full a.pool.now a.list.now a.i a.offset a.length c.in_ok-pool_data_checks.ensures c.place-place.result d.result d.new.list c.place-place.ensures
    d.ensures.value d.ensures.list_after e.field-0.0 e.ensures.value in
    (handed_on received_values c.from_residual-in_err-count.result e.field-0.0 c.from_residual-in_err-count.ensures.1 ∙ w.0, w.1)

pub offset_bounds-pool-i-2 : goal.offset_bounds-pool-i-2
offset_bounds-pool-i-2 c = let a = c.args in let n = known a.pool.now a.list.now a.i a.offset a.length c.in_ok-pool_data_checks.ensures in omega (arith, n.few, n.known)

pub bounds-pool-i-2 : goal.bounds-pool-i-2
bounds-pool-i-2 c = let a = c.args in let n = known a.pool.now a.list.now a.i a.offset a.length c.in_ok-pool_data_checks.ensures in omega (arith, n.few, n.known)

pub returns-then-rec : goal.returns-then-rec
returns-then-rec c =
    let a = c.args in
    let d = c.change_in-left in
    taken a.pool.now a.list.now a.i a.offset a.length c.in_ok-pool_data_checks.ensures c.place-place.result d.result d.new.list c.place-place.ensures
    d.ensures.value d.ensures.list_after c.in_ok-count.count c.max-progress.result true c.if-rec.true c.max-progress.ensures c.in_ok-count.ensures.value

pub returns : goal.returns
returns c =
    let a = c.args in
    let d = c.change_in-left in
    taken a.pool.now a.list.now a.i a.offset a.length c.in_ok-pool_data_checks.ensures c.place-place.result d.result d.new.list c.place-place.ensures
    d.ensures.value d.ensures.list_after c.in_ok-count.count c.max-progress.result false c.if-rec.false c.max-progress.ensures c.in_ok-count.ensures.value
