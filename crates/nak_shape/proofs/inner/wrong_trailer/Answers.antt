-- `nak_shape::inner::wrong_trailer`: the whole packet is asked, where its flag says so.
use Rattle.std.proofs.Common.{ℕ, ◌≡◌, ◌-◌, List, length, take, arith, sym, ap, ◌∙◌, true, false}
use lib.Seq.{take-length}
use Rattle.crc.specs.Damage.{ends_in_crc}
use Rattle.nak_parsing.specs.Parser.{packet_crc, wrong_trailer}
use Rattle.nak_shape.proofs.inner.wrong_trailer.Goals as goal

pub returns-then-crc : goal.returns-then-crc
unfolding wrong_trailer
returns-then-crc c =
    let p : List ℕ = c.args.packet.now in
    let z : length p - 0 ≡ length p = omega arith in
    let e : c.ends_in_crc.result ≡ ends_in_crc p = c.ends_in_crc.ensures ∙ ap ends_in_crc (ap (λ (n : ℕ). take n p) z ∙ take-length p) in
    let k : packet_crc p ≡ true = sym c.requires ∙ c.if-crc.true in
    rw (e, k)

pub returns-else-crc : goal.returns-else-crc
unfolding wrong_trailer
returns-else-crc c = let k : packet_crc c.args.packet.now ≡ false = sym c.requires ∙ c.if-crc.false in rw k c.if-crc.false
