-- Each answer is that of the checks in order, and the record and the list are as they were or as the end of file leaves them.
use Rattle.std.proofs.Common.{◌∙◌, ap}
use Rattle.ranges.specs.Store.{capacity}
use Rattle.outcomes.specs.Answered.{nothing}
use Rattle.outcomes.specs.Refusal.{refusing}
use Rattle.outcomes.specs.declared.Refusal.TheVariants as refusal
use Rattle.outcomes.proofs.Answered.{handed_on}
use Rattle.outcomes.proofs.FirstOf.{first-refused, none_of}
use Rattle.reception.specs.Eof.{eof_leaves, eof_checks}
use Rattle.reception.proofs.Sound.{sound}
use Rattle.reception.proofs.eof.Accepted.{eof_checked}
use Rattle.event_cores.proofs.Room.{left, none-left}
use Rattle.event_cores.proofs.eof.Answers.{refused_by, ended-by, no_room, has_room}
use Rattle.event_cores.proofs.eof.eof_event.Goals as goal

pub returns-in_err-eof_checks : goal.returns-in_err-eof_checks
returns-in_err-eof_checks c =
    let a = c.args in
    let r = c.in_err-eof_checks.field-0.0 in
    let w = refused_by a.rec.now a.list.now a.size r (first-refused (eof_checks a.rec.now a.list.now a.size) r _ c.in_err-eof_checks.ensures) in
    (handed_on nothing c.from_residual.result r c.from_residual.ensures.1 ∙ w.0, w.1)

pub finish-left-requires : goal.finish-left-requires
finish-left-requires c =
    let a = c.args in
    let k = eof_checked a.rec.now a.list.now a.size (none_of (eof_checks a.rec.now a.list.now a.size) c.in_ok-eof_checks.ensures) in
    let s = sound a.list.now a.rec.now k.passed in
    record { count_in_bounds = (s.store.room, (s.store.small, k.above)); coalesced = s.whole; count_value = s.waits }

pub returns-in_err-rec : goal.returns-in_err-rec
returns-in_err-rec c =
    let a = c.args in
    let r = c.in_err-rec.field-0.0 in
    let n = none_of (eof_checks a.rec.now a.list.now a.size) c.in_ok-eof_checks.ensures in
    let t = none-left (capacity a.list.now) (eof_leaves a.rec.now a.list.now a.size) refusal.StoreFull _ c.finish-left.ensures.value r c.in_err-rec.ensures.value in
    let w = refused_by a.rec.now a.list.now a.size refusal.StoreFull (no_room a.rec.now a.list.now a.size n t.0) in (
      handed_on nothing c.from_residual-in_err-rec.result r c.from_residual-in_err-rec.ensures.1 ∙ (ap refusing t.1 ∙ w.0),
      (w.1.0, (c.finish-left.ensures.list_after ∙ rw t.0) ∙ w.1.1),
    )

pub returns : goal.returns
returns c =
    let a = c.args in
    let n = none_of (eof_checks a.rec.now a.list.now a.size) c.in_ok-eof_checks.ensures in
    let t = left (capacity a.list.now) (eof_leaves a.rec.now a.list.now a.size) refusal.StoreFull _ c.finish-left.ensures.value _ c.in_ok-rec.ensures.value in
    let w = ended-by a.rec.now a.list.now a.size _ t.1 (has_room a.rec.now a.list.now a.size n t.0) in
    (w.0, (w.1.0, (c.finish-left.ensures.list_after ∙ rw t.0) ∙ w.1.1))
