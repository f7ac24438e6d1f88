-- `change_in` meets its contract: the event is tried in the slots held; else room is made, if there may be.
use Rattle.std.proofs.Common.{sym, ◌∙◌, ℕ, suc, ◌+◌, ◌*◌, cond, List}
use Rattle.ranges.specs.Range.{Range}
use Rattle.ranges.specs.Store.{counted}
use Rattle.reception.specs.Data.{data_ranges}
use Rattle.pooling.specs.Share.{part}
use Rattle.pooling.proofs.Own.{held-room}
use Rattle.resizing.proofs.Moved.{held-left, held-ends}
use Rattle.resizing.proofs.inner.changes.change_in.Goals as goal

pub returns-in-Some-clause-list_after : goal.returns-in-Some-clause-list_after
returns-in-Some-clause-list_after c =
    let a = c.args in
    let r = c.requires in
    let d = c.change-left in
    let n : ℕ = c.in-Some.n in
    let held : List ℕ = part (2 * a.place.at) (2 * (a.place.at + a.place.count)) a.list.now in
    let qs : List Range = data_ranges a.missing a.p a.a a.e (counted held a.place.count) in
    let w = held-left a.list.now a.place.at a.place.count a.place.total qs r.lies.0.0 r.lies.0.1.0 d.new.list n (sym c.in-Some.is ∙ d.ensures.value) d.ensures.list_after in
    (held-ends a.list.now a.place.at a.place.count a.place.total qs r.lies.0.0 r.lies.0.1.0 d.new.list c.close_up.new.list n (cond a.place.full a.place.count (suc a.place.count))
    (held-room a.place.full a.place.count) w.0 w.1.0 w.1.1 c.close_up.ensures).1
