use Rattle.std.proofs.Common.{◌+◌, ◌-◌, ◌<◌, arith, take, drop}
use Rattle.std.proofs.lemmas.Grind.{common_steps}
use Rattle.octets.proofs.Turns.{get_turn, room}
use Rattle.octets.proofs.inner.get.Goals as goal

pub loop-octet-preserved : goal.loop-octet-preserved
loop-octet-preserved c =
    let l = c.loop-octet in
    let a = c.args in
    let os = take (a.at + a.f - a.at) (drop a.at a.buf.now) in
    let k : c.from.result < 256 = grind (arith, common_steps, c.type_inv.buf (a.at + l.octet-index)) in
    (rw (l.invariant.0, c.from.ensures) (get_turn os l.octet-index c.loop-octet-test.true), room l.octet-index l.v c.from.result l.invariant.1 k)
