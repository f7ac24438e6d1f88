-- `nak_writer::inner::write_at`: the front, and behind it the trailer, are the PDU.
use Rattle.std.proofs.Common.{◌≡◌, ◌+◌, length, arith, ap, ◌∙◌}
use Rattle.octets.proofs.Over.{length_over}
use Rattle.nak.specs.Inner.{asking}
use Rattle.nak.specs.Pdu.{Nak, trailer_length, front, pdu}
use Rattle.nak.proofs.Parts.{length_front, length-pdu}
use Rattle.nak_writer.proofs.Whole.{pdu_puts}
use Rattle.nak_writer.proofs.inner.write_at.Goals as goal

-- how long a PDU is behind its front
long : (n : Nak) → length (pdu n) ≡ length (front n) + trailer_length n.form
long n = omega (arith, length_front n, length-pdu n)

pub put_end-requires : goal.put_end-requires
put_end-requires c =
    let a = c.args in
    let n = asking a.form a.identity a.asked in
    let l = ap length c.put_front-to.ensures.1 ∙ length_over a.buf.now a.at (front n) (omega (arith, long n, c.requires.1)) in
    omega (arith, c.put_front-to.ensures.0, l, long n, c.requires.1)

pub returns : goal.returns
returns c =
    let a = c.args in
    let n = asking a.form a.identity a.asked in (
      omega (arith, c.put_end.ensures.0, c.put_front-to.ensures.0, long n),
      pdu_puts a.buf.now a.at n c.put_front-to.ensures.0 c.put_front-to.ensures.1 c.put_end.ensures.1 (omega (arith, long n, c.requires.1)),
    )
