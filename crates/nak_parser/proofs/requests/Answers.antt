-- `nak_parser::requests`: the places that `parse` gives are those of the part.
use Rattle.std.proofs.Common.{◌∙◌}
use Rattle.nak_parsing.proofs.ParsedOf.{part-of, part_ptr}
use Rattle.nak_parser.proofs.requests.Goals as goal

pub part-requires : goal.part-requires
part-requires c =
    let q = part-of c.args.edition c.args.packet.now in
    rw c.parse-parsed.ensures (q.ordered, q.inside)

pub returns : goal.returns
returns c =
    let p = c.args.packet in
    let v = c.args.edition in
    let e = c.parse-parsed.ensures in
    ((rw e at c.part.ensures.0) ∙ (part-of v p.now).octets, (rw e at c.part.ensures.1) ∙ part_ptr v p)
