-- `nak_reader::read` meets its contract: a reader over the caller's own octets at the place that `parse` gave, and the part between its places.
use Rattle.std.proofs.Common.{ℕ, ◌∙◌, ap}
use Rattle.nak_parsing.specs.declared.Parsed.{Parsed}
use Rattle.nak_parsing.proofs.ParsedOf.{part-of, part_ptr}
use Rattle.nak_reader.specs.declared.NakReader.{NakReader}
use Rattle.nak_reader.proofs.read.Goals as goal

pub part-requests-requires : goal.part-requests-requires
part-requests-requires c =
    let ed = c.args.edition in
    let s = c.args.packet.now in
    rw c.parse-parsed.ensures ((part-of ed s).ordered, (part-of ed s).inside)

pub returns : goal.returns
returns c =
    let ed = c.args.edition in
    let s = c.args.packet in
    let e = c.parse-parsed.ensures in
    let k = c.part-requests.ensures in
    let at_place : ℕ → NakReader = λ n. record { packet = s; at = n } in
    (e, (ap at_place (ap (λ (z : Parsed). z.next) e ∙ (part-of ed s.now).next), ((rw e at k.0) ∙ (part-of ed s.now).octets, (rw e at k.1) ∙ part_ptr ed s)))
