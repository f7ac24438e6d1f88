-- Eight octets hold every number; else the number fits if nothing of it is left behind the bits of f octets.
use Rattle.std.proofs.Common.{arith, ◌∙◌, sym, le-leb}
use Rattle.octets.proofs.Turns.{octet-bits, fits_if_none, eight_fit}
use Rattle.octets.proofs.does_fit.Goals as goal

pub returns-then-f-ge8 : goal.returns-then-f-ge8
returns-then-f-ge8 c = le-leb 8 c.args.f c.if-f-ge8.true ∙ sym (eight_fit c.args.f c.args.v (omega arith) (omega arith))

pub returns-else-f-ge8 : goal.returns-else-f-ge8
returns-else-f-ge8 c = rw (octet-bits c.args.f) (fits_if_none c.args.f c.args.v)
