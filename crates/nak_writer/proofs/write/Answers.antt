-- `nak_writer::write`: what the checks refuse is answered and leaves the buffer, and else it holds the PDU.
use Rattle.std.proofs.Common.{ℕ, ◌≡◌, [], ◌∷◌, length, arith, sym, ap, ◌∙◌}
use Rattle.ranges.specs.Store.{pairs}
use Rattle.outcomes.specs.Outcome.{accepted}
use Rattle.outcomes.specs.Answered.{itself}
use Rattle.outcomes.proofs.Answered.{handed_on}
use Rattle.outcomes.proofs.FirstOf.{none_of}
use Rattle.octets.proofs.Over.{over-whole}
use Rattle.nak.specs.Pdu.{saying, pdu}
use Rattle.nak.specs.Writer.{write_checks}
use Rattle.nak.proofs.Checks.{good-list, good-lengths, all-entries, write_none, write_refused, write_passed}
use Rattle.nak_writer.proofs.write.Goals as goal

pub returns-in_err-write_checks-clause-result_value : goal.returns-in_err-write_checks-clause-result_value
returns-in_err-write_checks-clause-result_value c =
    let a = c.args in
    let r = c.in_err-write_checks in
    handed_on itself c.from_residual.result r.field-0.0 c.from_residual.ensures.1
    ∙ (write_refused a.requests.now (saying a.form a.identity a.start a.end (pairs a.requests.now)) a.buf.now r.field-0.0 r.ensures).0

pub returns-in_err-write_checks-clause-buf_after : goal.returns-in_err-write_checks-clause-buf_after
returns-in_err-write_checks-clause-buf_after c =
    let a = c.args in
    let r = c.in_err-write_checks in
    (write_refused a.requests.now (saying a.form a.identity a.start a.end (pairs a.requests.now)) a.buf.now r.field-0.0 r.ensures).1

pub write_at-requires : goal.write_at-requires
write_at-requires c =
    let a = c.args in
    let n = saying a.form a.identity a.start a.end (pairs a.requests.now) in
    let f = write_none a.requests.now n (length a.buf.now) (none_of (write_checks a.requests.now n (length a.buf.now)) c.in_ok-write_checks.ensures) in
    let e = good-list a.requests.now f.list in
    rw (all-entries a.requests.now e.0) (good-lengths a.identity f.says.identity, omega (arith, f.size))

pub returns-clause-result_value : goal.returns-clause-result_value
returns-clause-result_value c =
    let a = c.args in
    let n = saying a.form a.identity a.start a.end (pairs a.requests.now) in
    let f = write_none a.requests.now n (length a.buf.now) (none_of (write_checks a.requests.now n (length a.buf.now)) c.in_ok-write_checks.ensures) in
    let e = good-list a.requests.now f.list in
    let place = rw (all-entries a.requests.now e.0) at c.write_at.ensures.0 in
    let octets : c.write_at.result ≡ length (pdu n) = omega (arith, place) in
    ap (λ (k : ℕ). accepted (k ∷ [])) octets ∙ (write_passed a.requests.now n a.buf.now f).0

pub returns-clause-buf_after : goal.returns-clause-buf_after
returns-clause-buf_after c =
    let a = c.args in
    let n = saying a.form a.identity a.start a.end (pairs a.requests.now) in
    let f = write_none a.requests.now n (length a.buf.now) (none_of (write_checks a.requests.now n (length a.buf.now)) c.in_ok-write_checks.ensures) in
    let e = good-list a.requests.now f.list in
    let left = rw (all-entries a.requests.now e.0) at c.write_at.ensures.1 in
    left ∙ over-whole a.buf.now (pdu n) (sym f.size) ∙ (write_passed a.requests.now n a.buf.now f).1
