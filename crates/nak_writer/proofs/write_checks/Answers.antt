-- `nak_writer::write_checks`: the tests in order.
use Rattle.std.proofs.Common.{ℕ, ◌≡◌, ◌≤◌, ◌<◌, true, false, [], ◌∷◌, length, arith, sym, ap, ◌∙◌, lt-ltb, le-ltb, eq-eqb, ne_eqb}
use Rattle.ranges.specs.Store.{pairs, flat, any_above}
use Rattle.outcomes.specs.Outcome.{accepted}
use Rattle.outcomes.specs.Refusal.{refusing}
use Rattle.outcomes.specs.Checks.{first_of}
use Rattle.outcomes.specs.declared.Refusal.TheVariants as refusal
use Rattle.outcomes.specs.Answered.{nothing}
use Rattle.outcomes.proofs.Answered.{handed_on}
use Rattle.outcomes.proofs.FirstOf.{first-none, first-refused, none_of}
use Rattle.octets.specs.Flag.{largest_of}
use Rattle.nak.specs.Pdu.{Nak, saying, pdu_length, pdu}
use Rattle.nak.specs.Request.{requests_checks}
use Rattle.nak.specs.Writer.{largest_pdu, numbers_of, write_checks}
use Rattle.nak.proofs.Checks.{good-list, good-lengths, last_checks, from-requests}
use Rattle.nak.proofs.Flat.{flat-pairs}
use Rattle.nak.proofs.Parts.{pdu-length}
use Rattle.nak_writer.proofs.write_checks.Goals as goal
use Rattle.nak_writer.proofs.write_checks.Goals.{After-any_number_above, After-pdu_length-total}

-- what is asked behind the requests
last-above : (n : Nak) (given : ℕ) → any_above (largest_of n.form.flag) (numbers_of n) ≡ true
    → first_of (last_checks n given) (accepted []) ≡ refusing refusal.LargeSegmentForNormalFileSize
last-above n given a = rw a

last-large : (n : Nak) (given : ℕ) → any_above (largest_of n.form.flag) (numbers_of n) ≡ false → largest_pdu < length (pdu n)
    → first_of (last_checks n given) (accepted []) ≡ refusing refusal.PduSize
last-large n given a l = rw (a, lt-ltb _ _ l)

last-other : (n : Nak) (given : ℕ) → any_above (largest_of n.form.flag) (numbers_of n) ≡ false → length (pdu n) ≤ largest_pdu → (given ≡ length (pdu n) → ⊥)
    → first_of (last_checks n given) (accepted []) ≡ refusing (refusal.BufferSizeMissmatch (length (pdu n)) given)
last-other n given a l d = rw (a, le-ltb _ _ l, ne_eqb _ _ d)

last-none : (n : Nak) (given : ℕ) → any_above (largest_of n.form.flag) (numbers_of n) ≡ false → length (pdu n) ≤ largest_pdu → given ≡ length (pdu n)
    → first_of (last_checks n given) (accepted []) ≡ accepted []
last-none n given a l e = rw (a, le-ltb _ _ l, eq-eqb _ _ e)

-- the requests are passed, so these are asked
then_last :
    (b : After-any_number_above)
    → let a = b.args in
    let n = saying a.form a.identity a.start a.end (pairs a.requests.now) in
    first_of (write_checks a.requests.now n a.given) (accepted []) ≡ first_of (last_checks n a.given) (accepted [])
then_last b =
    let a = b.args in
    let rs = pairs a.requests.now in
    let list = sym b.bad_list.ensures ∙ b.if-bad_list.false in
    let identity = sym b.bad_identity.ensures ∙ b.if-bad_identity.false in
    let reserved = sym b.reserved_set.ensures ∙ b.if-reserved_set.false in
    from-requests a.requests.now (saying a.form a.identity a.start a.end rs) a.given (accepted []) list identity reserved b.if-end-start.false
    ∙ first-none (requests_checks rs) _ (none_of (requests_checks rs) b.in_ok-check_requests.ensures)

-- the flat list is that of its pairs
even : (b : After-any_number_above) → flat (pairs b.args.requests.now) ≡ b.args.requests.now
even b = flat-pairs b.args.requests.now (good-list b.args.requests.now (sym b.bad_list.ensures ∙ b.if-bad_list.false)).0

-- whether a number is above the flag's largest
above :
    (b : After-any_number_above)
    → let a = b.args in
    b.any_number_above.result ≡ any_above (largest_of a.form.flag) (numbers_of (saying a.form a.identity a.start a.end (pairs a.requests.now)))
above b =
    let a = b.args in
    b.any_number_above.ensures ∙ ap (λ (t : ℕ). any_above t (a.start ∷ a.end ∷ a.requests.now)) b.largest.ensures ∙ rw (even b)

-- the PDU's length
total :
    (b : After-pdu_length-total)
    → flat (pairs b.args.requests.now) ≡ b.args.requests.now
    → let a = b.args in
    b.pdu_length-total.result ≡ length (pdu (saying a.form a.identity a.start a.end (pairs a.requests.now)))
total b k =
    let a = b.args in
    let e : pdu_length a.form a.identity (length a.requests.now) ≡ pdu_length a.form a.identity (length (flat (pairs a.requests.now))) = rw k in
    b.pdu_length-total.ensures ∙ e ∙ pdu-length (saying a.form a.identity a.start a.end (pairs a.requests.now))

pub returns-in_err-check_requests : goal.returns-in_err-check_requests
returns-in_err-check_requests c =
    let a = c.args in
    let rs = pairs a.requests.now in
    let n = saying a.form a.identity a.start a.end rs in
    let list = sym c.bad_list.ensures ∙ c.if-bad_list.false in
    let identity = sym c.bad_identity.ensures ∙ c.if-bad_identity.false in
    let reserved = sym c.reserved_set.ensures ∙ c.if-reserved_set.false in
    let r = c.in_err-check_requests in
    handed_on nothing c.from_residual.result r.field-0.0 c.from_residual.ensures.1
    ∙ first-refused (requests_checks rs) r.field-0.0 (first_of (last_checks n a.given) (accepted [])) r.ensures
    ∙ sym (from-requests a.requests.now n a.given (accepted []) list identity reserved c.if-end-start.false)

pub returns-then-any_number_above : goal.returns-then-any_number_above
returns-then-any_number_above c =
    let b = (goal.at.returns-then-any_number_above c).After-any_number_above in
    let a = c.args in
    let n = saying a.form a.identity a.start a.end (pairs a.requests.now) in
    sym (then_last b ∙ last-above n a.given (sym (above b) ∙ c.if-any_number_above.true))

pub pdu_length-total-requires : goal.pdu_length-total-requires
pdu_length-total-requires c =
    (good-lengths c.args.identity (sym c.bad_identity.ensures ∙ c.if-bad_identity.false), (good-list c.args.requests.now (sym c.bad_list.ensures ∙ c.if-bad_list.false)).1)

pub returns-then-total-gt-LARGEST_PDU : goal.returns-then-total-gt-LARGEST_PDU
returns-then-total-gt-LARGEST_PDU c =
    let b = (goal.at.returns-then-total-gt-LARGEST_PDU c).After-any_number_above in
    let t = total (goal.at.returns-then-total-gt-LARGEST_PDU c).After-pdu_length-total (even b) in
    let a = c.args in
    let n = saying a.form a.identity a.start a.end (pairs a.requests.now) in
    sym (then_last b ∙ last-large n a.given (sym (above b) ∙ c.if-any_number_above.false) (omega (arith, t)))

pub returns-then-given-total : goal.returns-then-given-total
returns-then-given-total c =
    let b = (goal.at.returns-then-given-total c).After-any_number_above in
    let t = total (goal.at.returns-then-given-total c).After-pdu_length-total (even b) in
    let a = c.args in
    let n = saying a.form a.identity a.start a.end (pairs a.requests.now) in
    let other : (a.given ≡ length (pdu n) → ⊥) = λ z. c.if-given-total.true (z ∙ sym t) in
    rw t (sym (then_last b ∙ last-other n a.given (sym (above b) ∙ c.if-any_number_above.false) (omega (arith, t)) other))

pub returns : goal.returns
returns c =
    let b = (goal.at.returns c).After-any_number_above in
    let t = total (goal.at.returns c).After-pdu_length-total (even b) in
    let a = c.args in
    let n = saying a.form a.identity a.start a.end (pairs a.requests.now) in
    sym (then_last b ∙ last-none n a.given (sym (above b) ∙ c.if-any_number_above.false) (omega (arith, t)) (c.if-given-total.false ∙ t))
