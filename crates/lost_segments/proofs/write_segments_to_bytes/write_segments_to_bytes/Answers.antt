-- `write_segments_to_bytes` meets its contract: the checks refuse, or the buffer holds the fields of the counted numbers.
use Rattle.std.specs.Prelude.{⊤}
use Rattle.std.proofs.Common.{ℕ, ◌≡◌, ◌*◌, arith, sym, ap, ◌∙◌, List, [], ◌∷◌, length, take, Result, Ok}
use borrow.Author.Tests.{eqb-true, not-false}
use Rattle.ranges.proofs.Good.{Good, good}
use Rattle.ranges.specs.Store.{limit_of}
use Rattle.outcomes.specs.Outcome.{Outcome, accepted}
use Rattle.outcomes.specs.Checks.{Check, first_of, verdict_case, NoneOf}
use Rattle.octets.specs.declared.LargeFileFlag.{LargeFileFlag}
use Rattle.octets.specs.Flag.{field_length}
use Rattle.octets.specs.Octets.{fields}
use Rattle.octets.proofs.Over.{over-whole}
use Rattle.segment_store.specs.declared.Store.{Store}
use Rattle.segment_store.specs.WriteSegmentsToBytes.{write_length, to_bytes_checks}
use Rattle.outcomes.specs.Answered.{itself}
use Rattle.outcomes.proofs.Answered.{handed_on}
use Rattle.outcomes.proofs.Ends.{checks-passed, refused_end, passed-end}
use Rattle.outcomes.specs.declared.Refusal.{Refusal}
use Rattle.segment_store.proofs.write_segments_to_bytes.Sizes.{pair-octets, length-octets}
use Rattle.lost_segments.proofs.write_segments_to_bytes.write_segments_to_bytes.Goals as goal

module _ (xs : List ℕ) (st : Store) (flag : LargeFileFlag) (buf : List ℕ) where
  -- the checks, what they leave, and the octets then
  abbrev checks : List Check
  checks = to_bytes_checks xs st flag (length buf)

  abbrev done : Outcome
  done = accepted (write_length st flag ∷ [])

  abbrev octets : List ℕ
  octets = fields (field_length flag) (take (2 * st.count) xs)

  -- the checks are passed
  module _ (v : Result ⊤ Refusal) (told : verdict_case v ≡ first_of checks (accepted [])) (passed : v ≡ (Ok tt)) where
    none : NoneOf checks
    none = checks-passed checks v told passed

    store : Good xs st.count (limit_of st.width)
    store = good _ _ _ none.0

    fits : length buf ≡ write_length st flag
    fits = eqb-true _ _ (not-false _ none.1.0)

    octets-fit : field_length flag * (2 * st.count) ≡ length buf
    octets-fit = pair-octets st.count (field_length flag) ∙ sym fits

pub returns-in_err-write_checks : goal.returns-in_err-write_checks
returns-in_err-write_checks c =
    let a = c.args in
    let xs = a.list.now in
    let buf = a.buf.now in
    let f = c.write_checks in
    let w = refused_end (checks xs a.st a.flag buf) (done xs a.st a.flag buf) f.result c.in_err-write_checks.field-0.0 (octets xs a.st a.flag buf) buf f.ensures c.in_err-write_checks.was in
    record { result_value = handed_on itself c.from_residual.result c.in_err-write_checks.field-0.0 c.from_residual.ensures.1 ∙ w.0; buf_after = w.1 }

pub put_all-requires : goal.put_all-requires
put_all-requires c =
    let a = c.args in
    let f = c.write_checks in
    let g = store a.list.now a.st a.flag a.buf.now f.result f.ensures c.in_ok-write_checks.was in
    let r = g.room in
    let n = rw (sym c.field_length.ensures) at (octets-fit a.list.now a.st a.flag a.buf.now f.result f.ensures c.in_ok-write_checks.was) in
    (omega arith, omega arith)

pub returns-clause-buf_after : goal.returns-clause-buf_after
returns-clause-buf_after c =
    let a = c.args in
    let xs = a.list.now in
    let buf = a.buf.now in
    let f = c.write_checks in
    let n = none xs a.st a.flag buf f.result f.ensures c.in_ok-write_checks.was in
    let e = fits xs a.st a.flag buf f.result f.ensures c.in_ok-write_checks.was in
    let o : List ℕ = octets xs a.st a.flag buf in
    let w = passed-end (checks xs a.st a.flag buf) (done xs a.st a.flag buf) (accepted (length buf ∷ [])) o buf n (ap (λ (m : ℕ). accepted (m ∷ [])) e) in
    let l = length-octets (field_length a.flag) a.st.count xs (store xs a.st a.flag buf f.result f.ensures c.in_ok-write_checks.was).room in
    c.put_all.ensures ∙ rw c.field_length.ensures (over-whole buf o (l ∙ sym e)) ∙ w.1
