-- `nak_parser::next_at`: the end in two cases, and else the request at the place.
use Rattle.std.proofs.Common.{ℕ, ◌≡◌, List, cond, arith, refl, ap, ◌∙◌}
use Rattle.octets.specs.Flag.{field_length}
use Rattle.octets.specs.declared.LargeFileFlag.{LargeFileFlag}
use Rattle.nak.specs.Header.{flag_of, crc_flag_of}
use Rattle.nak_parsing.specs.Parser.{octet_at, packet_flag, packet_crc, trailer_in, field_length_in}
use Rattle.nak_parsing.specs.Step.{step_outcome, place_after}
use Rattle.nak_parsing.proofs.Reading.{field-low, trailer-high, is-end, end-high}
use Rattle.nak_parsing.proofs.Stepping.{at-end, not-at_end}
use Rattle.nak_parser.proofs.next_at.Goals as goal

-- F, and the trailer
f_is : (p : List ℕ) {o f : ℕ} {g : LargeFileFlag} → o ≡ octet_at p 0 → g ≡ flag_of o → f ≡ field_length g → f ≡ field_length_in p
unfolding field_length_in packet_flag
f_is p e g f = f ∙ ap field_length (g ∙ ap flag_of e)

t-is : (p : List ℕ) {o t : ℕ} → o ≡ octet_at p 0 → t ≡ cond (crc_flag_of o) 2 0 → t ≡ trailer_in p
unfolding trailer_in packet_crc
t-is p e t = t ∙ ap (λ (o : ℕ). cond (crc_flag_of o) 2 0) e

pub returns-then-total-at : goal.returns-then-total-at
unfolding step_outcome place_after
returns-then-total-at c =
    let p = c.args.packet.now in
    rw (at-end p c.args.at (omega (arith, field-low p, end-high p))) (refl, refl)

pub returns-then-total-at-2 : goal.returns-then-total-at-2
unfolding step_outcome place_after
returns-then-total-at-2 c =
    let p = c.args.packet.now in
    let f = f_is p c.from-octet.ensures c.flag_of.ensures c.field_length-f.ensures in
    let t = t-is p c.from-octet.ensures c.trailer_of-t.ensures in
    rw (at-end p c.args.at (omega (arith, f, is-end p t, field-low p, trailer-high p, t))) (refl, refl)

pub returns : goal.returns
unfolding step_outcome place_after
returns c =
    let p = c.args.packet.now in
    let f = f_is p c.from-octet.ensures c.flag_of.ensures c.field_length-f.ensures in
    let t = t-is p c.from-octet.ensures c.trailer_of-t.ensures in
    let e = not-at_end p c.args.at (omega (arith, f, is-end p t)) in
    rw (e, c.get-start.ensures, c.get-end.ensures, f) (refl, refl)
