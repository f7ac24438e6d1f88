-- `nak_octets::inner::put_metadata`: two fields of 0, or nothing.
use Rattle.std.proofs.Common.{arith, sym}
use Rattle.nak.proofs.Parts.{length-asked, asked-room}
use Rattle.octets.proofs.Over.{over_nothing}
use Rattle.nak_octets.proofs.Puts.{asked_puts}
use Rattle.nak_octets.proofs.inner.put_metadata.Goals as goal

pub returns-then-not-metadata : goal.returns-then-not-metadata
returns-then-not-metadata c =
    let a = c.args in
    rw c.if-not-metadata.true (omega arith, sym (over_nothing a.buf.now a.at))

pub put-requires : goal.put-requires
put-requires c = omega (arith, asked-room c.args.metadata c.args.f c.if-not-metadata.false)

pub overflow_add-at : goal.overflow_add-at
overflow_add-at c = omega (arith, asked-room c.args.metadata c.args.f c.if-not-metadata.false)

pub put-requires-2 : goal.put-requires-2
put-requires-2 c = omega (arith, asked-room c.args.metadata c.args.f c.if-not-metadata.false)

pub overflow_add-result : goal.overflow_add-result
overflow_add-result c = omega (arith, asked-room c.args.metadata c.args.f c.if-not-metadata.false)

pub overflow_add-result-2 : goal.overflow_add-result-2
overflow_add-result-2 c = omega (arith, asked-room c.args.metadata c.args.f c.if-not-metadata.false)

pub returns : goal.returns
returns c =
    let a = c.args in
    let k = asked-room a.metadata a.f c.if-not-metadata.false in
    let l = length-asked a.f in
    rw c.if-not-metadata.false (omega arith, asked_puts a.buf.now a.at a.f c.put.ensures c.put-2.ensures (omega arith))
