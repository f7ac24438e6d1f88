-- `nak_octets::inner::put_header`: the octets written side by side are the header.
use Rattle.std.proofs.Common.{arith, refl}
use Rattle.nak_octets.proofs.Puts.{header_puts}
use Rattle.nak_octets.proofs.inner.put_header.Goals as goal

pub returns : goal.returns
returns c =
    let a = c.args in
    header_puts a.buf.now a.at a.form a.i a.q a.len
    c.octet_0.ensures
    refl
    (omega arith)
    c.put.ensures
    c.put-2.ensures
    c.put-3.ensures
    (omega arith)
