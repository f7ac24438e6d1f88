-- `nak_writer::inner::put_front`: header, identity and data field side by side are the PDU but for its trailer.
use Rattle.std.proofs.Common.{◌≡◌, ◌+◌, ◌*◌, length, arith, sym, ◌∙◌}
use Rattle.ranges.specs.Store.{flat}
use Rattle.octets.specs.Flag.{field_length}
use Rattle.nak.specs.Inner.{asking}
use Rattle.nak.specs.Pdu.{Nak, header_length, data_length, trailer_length, data_field, front, pdu}
use Rattle.nak.proofs.Parts.{length_data, length_front, length-pdu}
use Rattle.nak_writer.proofs.Whole.{front_puts}
use Rattle.nak_writer.proofs.inner.put_front.Goals as goal

-- how long the parts of the PDU are
record Sizes (n : Nak) : Type 0 where
  fields : data_length (field_length n.form.flag) (length (flat n.requests)) ≡ length (data_field n)
  ahead : header_length n.identity.entity_length n.identity.number_length + length (data_field n) ≡ length (front n)
  whole : length (pdu n) ≡ length (front n) + trailer_length n.form

sizes : (n : Nak) → Sizes n
sizes n =
    record { fields = sym (length_data (field_length n.form.flag) n.scope n.requests); ahead = sym (length_front n); whole = omega (arith, length_front n, length-pdu n) }

pub data_length-len-requires : goal.data_length-len-requires
data_length-len-requires c =
    let z = sizes (asking c.args.form c.args.identity c.args.asked) in
    rw c.numbers.ensures (omega (arith, z.ahead, z.whole, z.fields))

pub put_header-requires : goal.put_header-requires
put_header-requires c =
    let z = sizes (asking c.args.form c.args.identity c.args.asked) in
    let l = c.requires.0 in
    (l.entity_low, l.entity_high, l.number-low, l.number-high, omega (arith, z.ahead, z.whole))

pub put_identity-requires : goal.put_identity-requires
put_identity-requires c =
    let z = sizes (asking c.args.form c.args.identity c.args.asked) in
    omega (arith, z.ahead, z.whole)

pub put_data-requires : goal.put_data-requires
put_data-requires c =
    let z = sizes (asking c.args.form c.args.identity c.args.asked) in
    rw c.field_length.ensures (omega (arith, z.ahead, z.whole, z.fields, c.header_length.ensures))

pub overflow_add-result : goal.overflow_add-result
overflow_add-result c =
    let z = sizes (asking c.args.form c.args.identity c.args.asked) in
    let len = rw c.numbers.ensures at c.data_length-len.ensures in
    omega (arith, z.ahead, z.whole, len, z.fields, c.header_length.ensures)

pub returns : goal.returns
returns c =
    let a = c.args in
    let n = asking a.form a.identity a.asked in
    let z = sizes n in
    let i = a.identity.entity_length in
    let q = a.identity.number_length in
    let len : c.data_length-len.result ≡ length (data_field n) = (rw c.numbers.ensures at c.data_length-len.ensures) ∙ z.fields in
    let place : a.at + c.header_length.result ≡ a.at + 4 + 2 * i + q = omega (arith, c.header_length.ensures) in
    let field = rw c.field_length.ensures at c.put_data.ensures in (
      omega (arith, c.header_length.ensures, len, z.ahead),
      front_puts a.buf.now a.at n (omega (arith, len, c.trailer_length.ensures)) place c.put_header.ensures c.put_identity.ensures field (omega (arith, c.header_length.ensures, z.ahead, z.whole)),
    )
