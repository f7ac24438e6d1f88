-- Where there is room, the list is (0, to).
use Rattle.std.proofs.Common.{◌∙◌, arith}
use Rattle.reception.proofs.Waits.{notice_one}
use Rattle.event_lists.proofs.inner.notice.Goals as goal

pub returns-clause-list_after : goal.returns-clause-list_after
returns-clause-list_after c =
    let a = c.args in
    c.put_pair.ensures ∙ (notice_one a.list.now a.count a.to (omega arith) (omega arith) (omega arith)).1
