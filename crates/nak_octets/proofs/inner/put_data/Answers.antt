-- `nak_octets::inner::put_data`: the parts written side by side are the data field.
use Rattle.std.proofs.Common.{arith}
use Rattle.nak.proofs.Parts.{data_room}
use Rattle.nak_octets.proofs.Puts.{data_puts}
use Rattle.nak_octets.proofs.inner.put_data.Goals as goal

pub put_metadata-place-requires : goal.put_metadata-place-requires
put_metadata-place-requires c = omega (arith, data_room c.args.f c.args.asked)

pub put_all-requires : goal.put_all-requires
put_all-requires c = rw c.pairs.ensures (omega (arith, data_room c.args.f c.args.asked), omega arith)

pub returns : goal.returns
returns c =
    let a = c.args in
    data_puts a.buf.now a.at a.f a.asked
    (rw c.from.ensures at c.put.ensures)
    c.put-2.ensures
    c.put-3.ensures
    c.put_metadata-place.ensures.1
    c.put_metadata-place.ensures.0
    (rw c.pairs.ensures at c.put_all.ensures)
    (omega (arith, data_room a.f a.asked))
