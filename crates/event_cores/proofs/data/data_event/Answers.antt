-- Each answer is that of the checks in order, and the record and the list are as they were or as the kept or noticed range leaves them.
use Rattle.std.specs.Prelude.{Option, Ok}
use Rattle.std.specs.Option.{ok_or}
use Rattle.std.proofs.Common.{◌≡◌, ◌∙◌, ◌+◌, ℕ, List, Bool, true, false, max, arith, ap}
use Rattle.ranges.specs.Store.{capacity}
use Rattle.ranges.specs.Inner.Cut.{cut_answer, cut_list}
use Rattle.outcomes.specs.Checks.{NoneOf}
use Rattle.outcomes.specs.Refusal.{refusing}
use Rattle.outcomes.specs.declared.Refusal.TheVariants as refusal
use Rattle.outcomes.proofs.Answered.{handed_on}
use Rattle.outcomes.proofs.FirstOf.{first-refused, none_of}
use Rattle.reception.specs.declared.Reception.{Reception}
use Rattle.reception.specs.Record.{moved}
use Rattle.reception.specs.Data.{received_values, data_leaves, data_checks}
use Rattle.reception.proofs.Sound.{sound}
use Rattle.reception.proofs.data.Accepted.{checked}
use Rattle.reception.proofs.Waits.{waiting_few}
use Rattle.event_cores.proofs.Room.{left, none-left}
use Rattle.event_cores.proofs.data.Answers.{same-moved, Ends, refused_by, mark, taken_by, no_room, has_room}
use Rattle.event_cores.proofs.data.data_event.Goals as goal

-- the event is accepted: n ranges are left, and the progress is p
accept : (rec : Reception) (xs ys : List ℕ) (off len p n : ℕ) (m : Bool) (o : Option ℕ) → NoneOf (data_checks rec xs off len) → rec.missing ≡ m
    → p ≡ max rec.progress (off + len) → o ≡ cut_answer (capacity xs) (data_leaves rec xs off len) → Ok n ≡ ok_or o refusal.StoreFull
    → ys ≡ cut_list (capacity xs) (data_leaves rec xs off len) rec.count xs
    → Ends rec xs off len (mark rec xs off len m) (moved rec p n) ys
accept rec xs ys off len p n m o none e to told some list =
    let r = left (capacity xs) (data_leaves rec xs off len) refusal.StoreFull o told n some in
    let w = taken_by rec xs off len m (has_room rec xs off len none m e r.0) in
    (w.0, (same-moved rec _ _ _ _ to r.1 ∙ w.1.0, (list ∙ rw r.0) ∙ w.1.1))

pub returns-in_err-data_checks : goal.returns-in_err-data_checks
returns-in_err-data_checks c =
    let a = c.args in
    let r = c.in_err-data_checks.field-0.0 in
    let w = refused_by a.rec.now a.list.now a.offset a.length r
    (first-refused (data_checks a.rec.now a.list.now a.offset a.length) r _ c.in_err-data_checks.ensures) in
    (handed_on received_values c.from_residual.result r c.from_residual.ensures.1 ∙ w.0, w.1)

pub change-left-requires : goal.change-left-requires
change-left-requires c =
    let a = c.args in
    let k = checked a.rec.now a.list.now a.offset a.length (none_of (data_checks a.rec.now a.list.now a.offset a.length) c.in_ok-data_checks.ensures) in
    let s = sound a.list.now a.rec.now k.passed in
    let n : (a.length ≡ 0 → ⊥) = k.some in
    record {
      count_in_bounds = (s.store.room, (s.store.small, omega (arith, n)));
      coalesced = (s.whole, s.above);
      count_bound = λ m. waiting_few a.list.now a.rec.now.count a.rec.now.progress s.store.room (s.waits m);
    }

pub returns-in_err-rec : goal.returns-in_err-rec
returns-in_err-rec c =
    let a = c.args in
    let r = c.in_err-rec.field-0.0 in
    let n = none_of (data_checks a.rec.now a.list.now a.offset a.length) c.in_ok-data_checks.ensures in
    let t = none-left (capacity a.list.now) (data_leaves a.rec.now a.list.now a.offset a.length) refusal.StoreFull _
    c.change-left.ensures.value r c.in_err-rec.ensures.value in
    let w = refused_by a.rec.now a.list.now a.offset a.length refusal.StoreFull (no_room a.rec.now a.list.now a.offset a.length n t.0) in (
      handed_on received_values c.from_residual-in_err-rec.result r c.from_residual-in_err-rec.ensures.1 ∙ (ap refusing t.1 ∙ w.0),
      (w.1.0, (c.change-left.ensures.list_after ∙ rw t.0) ∙ w.1.1),
    )

pub returns-then-rec : goal.returns-then-rec
returns-then-rec c =
    let a = c.args in
    let n = none_of (data_checks a.rec.now a.list.now a.offset a.length) c.in_ok-data_checks.ensures in
    accept a.rec.now a.list.now _ a.offset a.length _ _ true _ n c.if-rec.true c.max-rec.ensures c.change-left.ensures.value c.in_ok-rec.ensures.value c.change-left.ensures.list_after

pub returns-else-rec : goal.returns-else-rec
returns-else-rec c =
    let a = c.args in
    let n = none_of (data_checks a.rec.now a.list.now a.offset a.length) c.in_ok-data_checks.ensures in
    accept a.rec.now a.list.now _ a.offset a.length _ _ false _ n c.if-rec.false c.max-rec.ensures c.change-left.ensures.value c.in_ok-rec.ensures.value c.change-left.ensures.list_after
