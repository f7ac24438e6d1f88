-- `nak_parser::read_pdu`: each return is the outcome after the checks passed before it.
use Rattle.std.proofs.Common.{ℕ, ◌≡◌, ◌+◌, ◌*◌, ◌-◌, ◌≤◌, List, [], length, arith, sym, ap, ◌∙◌, lt-ltb, le-ltb}
use native.Mathlib.Nat.{mul-div-le}
use Rattle.ranges.specs.Range.{Range}
use Rattle.outcomes.specs.Outcome.{accepted}
use Rattle.outcomes.specs.Checks.{first_of}
use Rattle.outcomes.proofs.Answered.{handed_on}
use Rattle.outcomes.proofs.FirstOf.{first-refused, none_of}
use Rattle.octets.specs.Flag.{field_length}
use Rattle.nak.specs.declared.Edition.{Edition}
use Rattle.nak.specs.Pdu.{trailer_length}
use Rattle.nak.specs.Writer.{largest_pdu}
use Rattle.nak.specs.Request.{requests_checks}
use Rattle.nak_parsing.specs.declared.inner.Header.{Header}
use Rattle.nak_parsing.specs.Parser.{trailer_in, field_length_in, header_in, header_length_in, scope_in, packet_requests, shape_checks, nothing_of}
use Rattle.nak_parsing.proofs.Reading.{is-scope, is-place, is-requests, is-end, field-low, field-high, header-high}
use Rattle.nak_parsing.proofs.Reading.{Shape, shape_of, size_check, scope_checks, in_order, from-scope, from-requests, from-size}
use Rattle.nak_parsing.proofs.ParsedOf.{short, is_said}
use Rattle.nak_parser.proofs.read_pdu.Goals as goal

-- what the header says of the packet
module _ (v : Edition) (p : List ℕ) (h : Header) (e : h ≡ header_in v p) where
  at-is : h.length + 1 ≡ header_length_in p + 1
  at-is = ap (λ (h : Header). h.length + 1) e

  f_is : {f : ℕ} → f ≡ field_length h.form.flag → f ≡ field_length_in p
  unfolding field_length_in
  f_is k = k ∙ ap (λ (h : Header). field_length h.form.flag) e

  t-is : {t : ℕ} → t ≡ trailer_length h.form → t ≡ trailer_in p
  unfolding trailer_in
  t-is k = k ∙ ap (λ (h : Header). trailer_length h.form) e

  -- where the shape is right there is room for the scope, and behind it for the trailer
  room : {f : ℕ} → Shape v p → f ≡ field_length_in p → (h.length + 1 ≤ 29) × (4 ≤ f) × (f ≤ 8) × (h.length + 1 + 2 * f + trailer_in p ≤ length p)
  room s f =
      let a = at-is in
      (omega (arith, header-high p), omega (arith, field-low p), omega (arith, field-high p), omega (arith, s.total, s.room, s.some))

pub returns-then-total-lt4-clause-outcome : goal.returns-then-total-lt4-clause-outcome
returns-then-total-lt4-clause-outcome c = short c.args.edition c.args.packet.now c.if-total-lt4.true

pub returns-in_err-shape-clause-outcome : goal.returns-in_err-shape-clause-outcome
returns-in_err-shape-clause-outcome c =
    let v = c.args.edition in
    let p = c.args.packet.now in
    let r = c.in_err-shape in
    handed_on nothing_of c.from_residual.result r.field-0.0 c.from_residual.ensures.1
    ∙ first-refused (shape_checks v p) r.field-0.0 (first_of (scope_checks p) (accepted [])) r.ensures ∙ sym (in_order v p)

pub get-scope_start-requires : goal.get-scope_start-requires
get-scope_start-requires c =
    let v = c.args.edition in
    let p = c.args.packet.now in
    let h = c.header_in-header.result in
    let e = c.header_in-header.ensures in
    let s = shape_of v p (none_of (shape_checks v p) c.in_ok-shape.ensures) in
    let r = room v p h e s (f_is v p h e c.field_length-f.ensures) in
    (omega (arith, r), omega (arith, r))

pub get-scope_end-requires : goal.get-scope_end-requires
get-scope_end-requires c =
    let v = c.args.edition in
    let p = c.args.packet.now in
    let h = c.header_in-header.result in
    let e = c.header_in-header.ensures in
    let s = shape_of v p (none_of (shape_checks v p) c.in_ok-shape.ensures) in
    let r = room v p h e s (f_is v p h e c.field_length-f.ensures) in
    (omega (arith, r), omega (arith, r))

pub returns-then-scope_end-scope_start-clause-outcome : goal.returns-then-scope_end-scope_start-clause-outcome
returns-then-scope_end-scope_start-clause-outcome c =
    let v = c.args.edition in
    let p = c.args.packet.now in
    let h = c.header_in-header.result in
    let e = c.header_in-header.ensures in
    let s = shape_of v p (none_of (shape_checks v p) c.in_ok-shape.ensures) in
    let scope = is-scope p (at-is v p h e) (f_is v p h e c.field_length-f.ensures) c.get-scope_start.ensures c.get-scope_end.ensures in
    let reversed = lt-ltb (scope_in p).end (scope_in p).start (rw (← scope) c.if-scope_end-scope_start.true) in
    rw (from-scope v p s, reversed)

pub overflow_sub-to-2 : goal.overflow_sub-to-2
overflow_sub-to-2 c =
    let v = c.args.edition in
    let p = c.args.packet.now in
    let h = c.header_in-header.result in
    let e = c.header_in-header.ensures in
    let s = shape_of v p (none_of (shape_checks v p) c.in_ok-shape.ensures) in
    let r = room v p h e s (f_is v p h e c.field_length-f.ensures) in
    let t = t-is v p h e c.trailer_length.ensures in
    omega (arith, r, t)

pub check_packet-requires : goal.check_packet-requires
check_packet-requires c =
    let v = c.args.edition in
    let p = c.args.packet.now in
    let h = c.header_in-header.result in
    let e = c.header_in-header.ensures in
    let s = shape_of v p (none_of (shape_checks v p) c.in_ok-shape.ensures) in
    let f = c.field_length-f.result in
    let r = room v p h e s (f_is v p h e c.field_length-f.ensures) in
    let t = t-is v p h e c.trailer_length.ensures in
    let m = mul-div-le (length p - c.trailer_length.result - (h.length + 1 + 2 * f)) (2 * f) in
    (omega (arith, r), omega (arith, r, t, m))

pub returns-in_err-check_packet-clause-outcome : goal.returns-in_err-check_packet-clause-outcome
returns-in_err-check_packet-clause-outcome c =
    let v = c.args.edition in
    let p = c.args.packet.now in
    let h = c.header_in-header.result in
    let e = c.header_in-header.ensures in
    let s = shape_of v p (none_of (shape_checks v p) c.in_ok-shape.ensures) in
    let f = f_is v p h e c.field_length-f.ensures in
    let scope = is-scope p (at-is v p h e) f c.get-scope_start.ensures c.get-scope_end.ensures in
    let ordered : (scope_in p).start ≤ (scope_in p).end = rw (← scope) c.if-scope_end-scope_start.false in
    let rs = is-requests p (is-place p (at-is v p h e) f) (is-end p (t-is v p h e c.trailer_length.ensures)) f in
    let r = c.in_err-check_packet in
    let asked = r.ensures ∙ ap (λ (rs : List Range). first_of (requests_checks rs) (accepted [])) rs in
    handed_on nothing_of c.from_residual-in_err-check_packet.result r.field-0.0 c.from_residual-in_err-check_packet.ensures.1
    ∙ first-refused (requests_checks (packet_requests p)) r.field-0.0 (first_of (size_check p) (accepted [])) asked ∙ sym (from-requests v p s ordered)

pub returns-then-total-gt-LARGEST_PDU-clause-outcome : goal.returns-then-total-gt-LARGEST_PDU-clause-outcome
returns-then-total-gt-LARGEST_PDU-clause-outcome c =
    let v = c.args.edition in
    let p = c.args.packet.now in
    let h = c.header_in-header.result in
    let e = c.header_in-header.ensures in
    let s = shape_of v p (none_of (shape_checks v p) c.in_ok-shape.ensures) in
    let f = f_is v p h e c.field_length-f.ensures in
    let scope = is-scope p (at-is v p h e) f c.get-scope_start.ensures c.get-scope_end.ensures in
    let ordered : (scope_in p).start ≤ (scope_in p).end = rw (← scope) c.if-scope_end-scope_start.false in
    let rs = is-requests p (is-place p (at-is v p h e) f) (is-end p (t-is v p h e c.trailer_length.ensures)) f in
    let asked = c.in_ok-check_packet.ensures ∙ ap (λ (rs : List Range). first_of (requests_checks rs) (accepted [])) rs in
    rw (from-size v p s ordered (none_of (requests_checks (packet_requests p)) asked), lt-ltb largest_pdu (length p) c.if-total-gt-LARGEST_PDU.true)

pub returns-clause-outcome : goal.returns-clause-outcome
returns-clause-outcome c =
    let v = c.args.edition in
    let p = c.args.packet.now in
    let h = c.header_in-header.result in
    let e = c.header_in-header.ensures in
    let s = shape_of v p (none_of (shape_checks v p) c.in_ok-shape.ensures) in
    let f = f_is v p h e c.field_length-f.ensures in
    let scope = is-scope p (at-is v p h e) f c.get-scope_start.ensures c.get-scope_end.ensures in
    let ordered : (scope_in p).start ≤ (scope_in p).end = rw (← scope) c.if-scope_end-scope_start.false in
    let rs = is-requests p (is-place p (at-is v p h e) f) (is-end p (t-is v p h e c.trailer_length.ensures)) f in
    let asked = c.in_ok-check_packet.ensures ∙ ap (λ (rs : List Range). first_of (requests_checks rs) (accepted [])) rs in
    rw (from-size v p s ordered (none_of (requests_checks (packet_requests p)) asked), le-ltb largest_pdu (length p) (omega arith))

pub returns-clause-says : goal.returns-clause-says
returns-clause-says c =
    let v = c.args.edition in
    let p = c.args.packet.now in
    let h = c.header_in-header.result in
    let e = c.header_in-header.ensures in
    let f = f_is v p h e c.field_length-f.ensures in
    let scope = is-scope p (at-is v p h e) f c.get-scope_start.ensures c.get-scope_end.ensures in
    is_said v p c.identity_in.ensures (ap (λ (h : Header). h.form) e) scope (is-place p (at-is v p h e) f) (is-end p (t-is v p h e c.trailer_length.ensures))
