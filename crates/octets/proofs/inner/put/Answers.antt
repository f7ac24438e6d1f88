use Rattle.std.proofs.Common.{◌≡◌, ◌-◌, ◌∙◌, suc, arith}
use Rattle.octets.proofs.Turns.{put-turn, put-none, put_whole}
use Rattle.octets.proofs.inner.put.Goals as goal

pub loop-i-preserved : goal.loop-i-preserved
loop-i-preserved c =
    let l = c.loop-i in
    let k = l.i - 1 in
    let e : l.i ≡ suc k = omega arith in
    put-turn l.buf c.args.at k l.rest (omega arith) ∙ rw e at l.invariant

pub returns : goal.returns
returns c =
    let l = c.loop-i in
    let e : l.i ≡ 0 = omega arith in
    put-none l.buf c.args.at l.rest ∙ (rw e at l.invariant) ∙ put_whole c.args.buf.now c.args.at c.args.f c.args.v
