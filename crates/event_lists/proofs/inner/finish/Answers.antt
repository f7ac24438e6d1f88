-- Nothing becomes missing, or the list of a waiting record is left.
use Rattle.std.proofs.Common.{arith}
use Rattle.reception.proofs.Waits.{waiting_few}
use Rattle.reception.proofs.eof.Tail.{tail_none}
use Rattle.event_lists.proofs.inner.finish.Goals as goal

pub returns-then-p-z : goal.returns-then-p-z
returns-then-p-z c =
    let a = c.args in
    let w = tail_none a.missing a.p a.z a.list.now a.count c.requires.count_in_bounds.0 c.if-p-z.true c.requires.count_value in
    record { value = w.0; list_after = w.1 }

pub notice-requires : goal.notice-requires
notice-requires c =
    let a = c.args in
    let r = c.requires.count_in_bounds in
    (waiting_few a.list.now a.count a.p r.0 (c.requires.count_value c.if-missing.true), (r.0, omega (arith, r.1.1, c.if-p-z.false)))
