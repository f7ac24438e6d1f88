-- `change_grown` meets its contract: room is made, and the event leaves one range more there.
use Rattle.std.proofs.Common.{◌≡◌, refl, suc, ◌+◌, ◌*◌, ◌≤◌, List, length, arith}
use Rattle.ranges.specs.Range.{Range}
use Rattle.ranges.specs.Store.{counted}
use Rattle.ranges.proofs.Flat.{length-counted}
use Rattle.reception.specs.Data.{data_ranges}
use Rattle.pooling.specs.Share.{part}
use Rattle.pooling.proofs.Grows.{data_grows}
use Rattle.resizing.proofs.Moved.{held-size, gap-kept, grown}
use Rattle.resizing.proofs.inner.changes.change_grown.Goals as goal

pub change-requires-clause-coalesced : goal.change-requires-clause-coalesced
change-requires-clause-coalesced c =
    let a = c.args in
    let r = c.requires in
    let rs : List Range = counted (part (2 * a.place.at) (2 * (a.place.at + a.place.count)) a.list.now) a.place.count in
    let k = gap-kept a.list.now a.place.at a.place.count a.place.total (data_ranges a.missing a.p a.a a.e rs) r.lies.0.0 r.lies.0.1.0 r.lies.1.0
    c.make_room.new.list c.make_room.ensures in
    rw k.1 r.coalesced

pub returns : goal.returns
returns c =
    let a = c.args in
    let r = c.requires in
    let rs : List Range = counted (part (2 * a.place.at) (2 * (a.place.at + a.place.count)) a.list.now) a.place.count in
    let size = held-size a.list.now a.place.at a.place.count (omega (arith, r.lies.0)) in
    let count : length rs ≡ a.place.count = length-counted (part (2 * a.place.at) (2 * (a.place.at + a.place.count)) a.list.now) a.place.count (omega (arith, size)) in
    let most : length (data_ranges a.missing a.p a.a a.e rs) ≤ suc a.place.count = omega (arith, count, data_grows a.missing a.p a.a a.e rs r.lies.1.1 r.coalesced.0 r.coalesced.1) in
    let one_more : length (data_ranges a.missing a.p a.a a.e rs) ≡ suc a.place.count = omega (arith, most, r.grows) in
    let w = grown a.list.now a.place.at a.place.count a.place.total (data_ranges a.missing a.p a.a a.e rs) r.lies.0.0 r.lies.0.1.0 r.lies.1.0
    (λ (rs : List Range). data_ranges a.missing a.p a.a a.e rs) c.make_room.new.list c.change.new.list c.change.result refl one_more
    c.make_room.ensures c.change.ensures.value c.change.ensures.list_after in
    record { value = w.0; list_after = w.1 }
