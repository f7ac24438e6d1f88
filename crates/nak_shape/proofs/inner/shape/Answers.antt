-- `nak_shape::inner::shape`: the tests in order.
use Rattle.std.proofs.Common.{ℕ, ◌≡◌, ◌≤◌, Bool, false, true, List, [], ◌∷◌, length, arith, sym, ap, ◌∙◌, le-ltb, eq-eqb}
use Rattle.outcomes.specs.Outcome.{accepted}
use Rattle.outcomes.specs.Refusal.{refusing}
use Rattle.outcomes.specs.Checks.{first_of}
use Rattle.outcomes.specs.declared.Refusal.TheVariants as refusal
use Rattle.octets.proofs.Fields.{octets-all}
use Rattle.octets.specs.Flag.{field_length}
use Rattle.nak.specs.declared.Edition.{Edition}
use Rattle.nak.specs.Header.{wrong_fixed}
use Rattle.nak.specs.Pdu.{nak_code, trailer_length}
use Rattle.nak_parsing.specs.Parser.{octet_at, trailer_in, field_length_in, header_in, header_length_in, length_field, wrong_length, wrong_trailer, wrong_data, shape_checks}
use Rattle.nak_parsing.specs.declared.inner.Header.{Header}
use Rattle.nak_parsing.proofs.Reading.{header-high, trailer-high, length-low, is-length, is_data, trailer-first, directive_first}
use Rattle.nak_shape.proofs.inner.shape.Goals as goal

-- what the header says
module _ (v : Edition) (p : List ℕ) (h : Header) (e : h ≡ header_in v p) where
  h-is : h.length ≡ header_length_in p
  h-is = ap (λ (h : Header). h.length) e

  len_is : h.data_length ≡ length_field p
  len_is = ap (λ (h : Header). h.data_length) e

  t-is : {t : ℕ} → t ≡ trailer_length h.form → t ≡ trailer_in p
  unfolding trailer_in
  t-is k = k ∙ ap (λ (h : Header). trailer_length h.form) e

  f_is : {f : ℕ} → f ≡ field_length h.form.flag → f ≡ field_length_in p
  unfolding field_length_in
  f_is k = k ∙ ap (λ (h : Header). field_length h.form.flag) e

-- what the tests say
fixed-is : (v : Edition) (p : List ℕ) {a b : ℕ} {r : Bool} → a ≡ octet_at p 0 → b ≡ octet_at p 3 → r ≡ wrong_fixed v a b → r ≡ false
    → wrong_fixed v (octet_at p 0) (octet_at p 3) ≡ false
fixed-is v p {a} {b} x y k z = sym (k ∙ ap (wrong_fixed v a) y ∙ ap (λ (o : ℕ). wrong_fixed v o (octet_at p 3)) x) ∙ z

-- and so which refusal there is
module _ (v : Edition) (p : List ℕ) (enough : 4 ≤ length p) (fixed : wrong_fixed v (octet_at p 0) (octet_at p 3) ≡ false) where
  length-first : wrong_length p ≡ true → first_of (shape_checks v p) (accepted []) ≡ refusing refusal.LengthMismatch
  length-first l = rw (le-ltb (length p) 4 enough, fixed, l)

  data_asked : wrong_length p ≡ false → wrong_trailer p ≡ false → octet_at p (header_length_in p) ≡ nak_code → (r : Bool) → wrong_data p ≡ r
      → first_of (shape_checks v p) (accepted []) ≡ first_of ((r, refusal.LengthMismatch) ∷ []) (accepted [])
  data_asked l t k r d = rw (le-ltb (length p) 4 enough, fixed, l, t, eq-eqb _ _ k, d)

pub wrong_length-requires : goal.wrong_length-requires
wrong_length-requires c =
    let p = c.args.packet.now in
    let h = c.args.header in
    let e = c.requires.1 in
    let all = octets-all p (λ i. omega (arith, c.type_inv.packet i)) in (
      omega (arith, h-is c.args.edition p h e, header-high p),
      omega (arith, len_is c.args.edition p h e, length-low p all c.requires.0),
      omega (arith, t-is c.args.edition p h e c.trailer_length-t.ensures, trailer-high p),
    )

pub returns-then-wrong_length : goal.returns-then-wrong_length
returns-then-wrong_length c =
    let p = c.args.packet.now in
    let h = c.args.header in
    let v = c.args.edition in
    let e = c.requires.1 in
    let fixed = fixed-is v p c.from.ensures c.from-2.ensures c.wrong_fixed.ensures c.if-wrong_fixed.false in
    let l = c.wrong_length.ensures ∙ is-length p (h-is v p h e) (len_is v p h e) (t-is v p h e c.trailer_length-t.ensures) in
    sym (length-first v p c.requires.0 fixed (sym l ∙ c.if-wrong_length.true))

pub returns-then-wrong_trailer : goal.returns-then-wrong_trailer
returns-then-wrong_trailer c =
    let p = c.args.packet.now in
    let h = c.args.header in
    let v = c.args.edition in
    let e = c.requires.1 in
    let fixed = fixed-is v p c.from.ensures c.from-2.ensures c.wrong_fixed.ensures c.if-wrong_fixed.false in
    let l = c.wrong_length.ensures ∙ is-length p (h-is v p h e) (len_is v p h e) (t-is v p h e c.trailer_length-t.ensures) in
    sym (trailer-first v p (accepted []) c.requires.0 fixed (sym l ∙ c.if-wrong_length.false) (sym c.wrong_trailer.ensures ∙ c.if-wrong_trailer.true))

pub returns-then-packet-h-ne-NAK_CODE : goal.returns-then-packet-h-ne-NAK_CODE
returns-then-packet-h-ne-NAK_CODE c =
    let p = c.args.packet.now in
    let h = c.args.header in
    let v = c.args.edition in
    let e = c.requires.1 in
    let fixed = fixed-is v p c.from.ensures c.from-2.ensures c.wrong_fixed.ensures c.if-wrong_fixed.false in
    let l = c.wrong_length.ensures ∙ is-length p (h-is v p h e) (len_is v p h e) (t-is v p h e c.trailer_length-t.ensures) in
    let other : (octet_at p (header_length_in p) ≡ nak_code → ⊥) = λ z. c.if-packet-h-ne-NAK_CODE.true (ap (octet_at p) (h-is v p h e) ∙ z) in
    sym (directive_first v p (accepted []) c.requires.0 fixed (sym l ∙ c.if-wrong_length.false) (sym c.wrong_trailer.ensures ∙ c.if-wrong_trailer.false) other)

pub returns-then-wrong_data : goal.returns-then-wrong_data
returns-then-wrong_data c =
    let p = c.args.packet.now in
    let h = c.args.header in
    let v = c.args.edition in
    let e = c.requires.1 in
    let fixed = fixed-is v p c.from.ensures c.from-2.ensures c.wrong_fixed.ensures c.if-wrong_fixed.false in
    let t = t-is v p h e c.trailer_length-t.ensures in
    let l = c.wrong_length.ensures ∙ is-length p (h-is v p h e) (len_is v p h e) t in
    let code : octet_at p (header_length_in p) ≡ nak_code = ap (octet_at p) (sym (h-is v p h e)) ∙ c.if-packet-h-ne-NAK_CODE.false in
    let d = c.wrong_data.ensures ∙ is_data p (len_is v p h e) t (f_is v p h e c.field_length.ensures) in
    sym (data_asked v p c.requires.0 fixed (sym l ∙ c.if-wrong_length.false) (sym c.wrong_trailer.ensures ∙ c.if-wrong_trailer.false) code true (sym d ∙ c.if-wrong_data.true))

pub returns : goal.returns
returns c =
    let p = c.args.packet.now in
    let h = c.args.header in
    let v = c.args.edition in
    let e = c.requires.1 in
    let fixed = fixed-is v p c.from.ensures c.from-2.ensures c.wrong_fixed.ensures c.if-wrong_fixed.false in
    let t = t-is v p h e c.trailer_length-t.ensures in
    let l = c.wrong_length.ensures ∙ is-length p (h-is v p h e) (len_is v p h e) t in
    let code : octet_at p (header_length_in p) ≡ nak_code = ap (octet_at p) (sym (h-is v p h e)) ∙ c.if-packet-h-ne-NAK_CODE.false in
    let d = c.wrong_data.ensures ∙ is_data p (len_is v p h e) t (f_is v p h e c.field_length.ensures) in
    sym (data_asked v p c.requires.0 fixed (sym l ∙ c.if-wrong_length.false) (sym c.wrong_trailer.ensures ∙ c.if-wrong_trailer.false) code false (sym d ∙ c.if-wrong_data.false))
