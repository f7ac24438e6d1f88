-- `crc::ends_in_crc`: octets end in their CRC exactly if the CRC of them all is 0.
use Rattle.std.proofs.Common.{ℕ, ◌-◌, arith, ap, ◌∙◌, nat_eq, drop}
use Rattle.octets.proofs.Fields.{octets-all, octets-take, octets-drop}
use Rattle.crc.proofs.Turns.{between}
use Rattle.crc.proofs.Ends.{by_zero}
use Rattle.crc.proofs.ends_in_crc.Goals as goal

pub returns : goal.returns
returns c =
    let a = c.args in
    let xs = a.octets.now in
    let all = octets-all xs (λ i. omega (arith, c.type_inv.octets i)) in
    ap (λ (r : ℕ). nat_eq r 0) c.crc_of.ensures
    ∙ by_zero (between a.from a.to xs) (octets-take (a.to - a.from) (drop a.from xs) (octets-drop a.from xs all))
