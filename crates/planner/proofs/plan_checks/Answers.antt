-- `plan_checks` meets its contract: the tests in order.
use mathlib.Core.Path.{◌≡◌, sym, ap, ◌∙◌}
use mathlib.Core.Bool.{false}
use mathlib.Core.List.{[], ◌++◌}
use Prim.Native.Nat.{◌≤◌}
use lib.ListN.{length}
use borrow.Author.Tests.{eq-eqb, ne_eqb, lt-ltb, le-ltb}
use Rattle.outcomes.specs.Outcome.{accepted}
use Rattle.outcomes.specs.Checks.{verdict_case, first_of}
use Rattle.outcomes.specs.declared.Refusal.{Refusal}
use Rattle.outcomes.proofs.FirstOf.{none_of}
use Rattle.nak.specs.Writer.{is_bad_identity}
use Rattle.reception.specs.Record.{record_checks, Passed}
use Rattle.outcomes.specs.Answered.{nothing}
use Rattle.outcomes.proofs.Answered.{handed_on}
use Rattle.reception.proofs.Sound.{refused_record, behind_record}
use Rattle.planning.specs.Plan.{plan, pdus}
use Rattle.planning.specs.Check.{most_pdus, sum_of, proposal_checks}
use native.Mathlib.Omega.{arith}
use Rattle.planner.proofs.plan_checks.Goals as goal

pub returns-in_err-record_checks : goal.returns-in_err-record_checks
returns-in_err-record_checks c =
    let fault : verdict_case c.record_checks.result ≡ first_of (record_checks (c.args.rec) (c.args.list.now)) (accepted []) = c.record_checks.ensures in
    let r : Refusal = c.in_err-record_checks.field-0.0 in
    let a = c.args in
    let rest = proposal_checks a.identity (plan a.edition a.lengths.now a.buf.now) a.given in
    handed_on nothing c.from_residual.result r c.from_residual.ensures.1 ∙ refused_record a.list.now a.rec r rest (accepted [])
    (ap verdict_case (sym c.in_err-record_checks.was) ∙ fault)

pub returns-then-bad_identity : goal.returns-then-bad_identity
returns-then-bad_identity c =
    let fault : verdict_case c.record_checks.result ≡ first_of (record_checks (c.args.rec) (c.args.list.now)) (accepted []) = c.record_checks.ensures in
    let passed : Passed (c.args.list.now) (c.args.rec) = none_of (record_checks (c.args.rec) (c.args.list.now)) (ap verdict_case (sym c.in_ok-record_checks.was) ∙ fault) in
    let behind : first_of ((let a = c.args in proposal_checks a.identity ((let a = c.args in plan a.edition a.lengths.now a.buf.now)) a.given)) (accepted []) ≡ first_of
    (record_checks (c.args.rec) (c.args.list.now) ++ (let a = c.args in proposal_checks a.identity ((let a = c.args in plan a.edition a.lengths.now a.buf.now)) a.given))
    (accepted []) = behind_record (c.args.list.now) (c.args.rec) (passed) ((let a = c.args in proposal_checks a.identity ((let a = c.args in plan a.edition a.lengths.now a.buf.now)) a.given))
    (accepted []) in
    rw (← behind) (rw (sym c.bad_identity.ensures ∙ c.if-bad_identity.true))

pub returns-then-lengths-gt-MOST_PDUS : goal.returns-then-lengths-gt-MOST_PDUS
returns-then-lengths-gt-MOST_PDUS c =
    let fault : verdict_case c.record_checks.result ≡ first_of (record_checks (c.args.rec) (c.args.list.now)) (accepted []) = c.record_checks.ensures in
    let passed : Passed (c.args.list.now) (c.args.rec) = none_of (record_checks (c.args.rec) (c.args.list.now)) (ap verdict_case (sym c.in_ok-record_checks.was) ∙ fault) in
    let behind : first_of ((let a = c.args in proposal_checks a.identity ((let a = c.args in plan a.edition a.lengths.now a.buf.now)) a.given)) (accepted []) ≡ first_of
    (record_checks (c.args.rec) (c.args.list.now) ++ (let a = c.args in proposal_checks a.identity ((let a = c.args in plan a.edition a.lengths.now a.buf.now)) a.given))
    (accepted []) = behind_record (c.args.list.now) (c.args.rec) (passed) ((let a = c.args in proposal_checks a.identity ((let a = c.args in plan a.edition a.lengths.now a.buf.now)) a.given))
    (accepted []) in
    let identity : is_bad_identity c.args.identity ≡ false = sym c.bad_identity.ensures ∙ c.if-bad_identity.false in
    rw (← behind) (rw (identity, lt-ltb _ _ c.if-lengths-gt-MOST_PDUS.true))

pub returns-then-sum-buf : goal.returns-then-sum-buf
returns-then-sum-buf c =
    let fault : verdict_case c.record_checks.result ≡ first_of (record_checks (c.args.rec) (c.args.list.now)) (accepted []) = c.record_checks.ensures in
    let passed : Passed (c.args.list.now) (c.args.rec) = none_of (record_checks (c.args.rec) (c.args.list.now)) (ap verdict_case (sym c.in_ok-record_checks.was) ∙ fault) in
    let behind : first_of ((let a = c.args in proposal_checks a.identity ((let a = c.args in plan a.edition a.lengths.now a.buf.now)) a.given)) (accepted []) ≡ first_of
    (record_checks (c.args.rec) (c.args.list.now) ++ (let a = c.args in proposal_checks a.identity ((let a = c.args in plan a.edition a.lengths.now a.buf.now)) a.given))
    (accepted []) = behind_record (c.args.list.now) (c.args.rec) (passed) ((let a = c.args in proposal_checks a.identity ((let a = c.args in plan a.edition a.lengths.now a.buf.now)) a.given))
    (accepted []) in
    let identity : is_bad_identity c.args.identity ≡ false = sym c.bad_identity.ensures ∙ c.if-bad_identity.false in
    let few : pdus ((let a = c.args in plan a.edition a.lengths.now a.buf.now)) ≤ most_pdus = c.if-lengths-gt-MOST_PDUS.false in
    let sum : c.sum_of-sum.result ≡ sum_of ((let a = c.args in plan a.edition a.lengths.now a.buf.now)) = c.sum_of-sum.ensures in
    rw (← behind) (rw (identity, le-ltb _ _ (few), ← sum, ne_eqb _ _ c.if-sum-buf.true))

pub returns-then-given-needed : goal.returns-then-given-needed
returns-then-given-needed c =
    let fault : verdict_case c.record_checks.result ≡ first_of (record_checks (c.args.rec) (c.args.list.now)) (accepted []) = c.record_checks.ensures in
    let passed : Passed (c.args.list.now) (c.args.rec) = none_of (record_checks (c.args.rec) (c.args.list.now)) (ap verdict_case (sym c.in_ok-record_checks.was) ∙ fault) in
    let behind : first_of ((let a = c.args in proposal_checks a.identity ((let a = c.args in plan a.edition a.lengths.now a.buf.now)) a.given)) (accepted []) ≡ first_of
    (record_checks (c.args.rec) (c.args.list.now) ++ (let a = c.args in proposal_checks a.identity ((let a = c.args in plan a.edition a.lengths.now a.buf.now)) a.given))
    (accepted []) = behind_record (c.args.list.now) (c.args.rec) (passed) ((let a = c.args in proposal_checks a.identity ((let a = c.args in plan a.edition a.lengths.now a.buf.now)) a.given))
    (accepted []) in
    let identity : is_bad_identity c.args.identity ≡ false = sym c.bad_identity.ensures ∙ c.if-bad_identity.false in
    let few : pdus ((let a = c.args in plan a.edition a.lengths.now a.buf.now)) ≤ most_pdus = c.if-lengths-gt-MOST_PDUS.false in
    let sum : c.sum_of-sum.result ≡ sum_of ((let a = c.args in plan a.edition a.lengths.now a.buf.now)) = c.sum_of-sum.ensures in
    let told : c.sum_of-sum.result ≡ length c.args.buf.now = omega arith in
    let sums : sum_of ((let a = c.args in plan a.edition a.lengths.now a.buf.now)) ≡ length ((let a = c.args in plan a.edition a.lengths.now a.buf.now)).octets = sym (sum) ∙ told in
    rw (← behind) (rw (identity, le-ltb _ _ (few), eq-eqb _ _ (sums), lt-ltb _ _ c.if-given-needed.true))

pub returns : goal.returns
returns c =
    let fault : verdict_case c.record_checks.result ≡ first_of (record_checks (c.args.rec) (c.args.list.now)) (accepted []) = c.record_checks.ensures in
    let passed : Passed (c.args.list.now) (c.args.rec) = none_of (record_checks (c.args.rec) (c.args.list.now)) (ap verdict_case (sym c.in_ok-record_checks.was) ∙ fault) in
    let behind : first_of ((let a = c.args in proposal_checks a.identity ((let a = c.args in plan a.edition a.lengths.now a.buf.now)) a.given)) (accepted []) ≡ first_of
    (record_checks (c.args.rec) (c.args.list.now) ++ (let a = c.args in proposal_checks a.identity ((let a = c.args in plan a.edition a.lengths.now a.buf.now)) a.given))
    (accepted []) = behind_record (c.args.list.now) (c.args.rec) (passed) ((let a = c.args in proposal_checks a.identity ((let a = c.args in plan a.edition a.lengths.now a.buf.now)) a.given))
    (accepted []) in
    let identity : is_bad_identity c.args.identity ≡ false = sym c.bad_identity.ensures ∙ c.if-bad_identity.false in
    let few : pdus ((let a = c.args in plan a.edition a.lengths.now a.buf.now)) ≤ most_pdus = c.if-lengths-gt-MOST_PDUS.false in
    let sum : c.sum_of-sum.result ≡ sum_of ((let a = c.args in plan a.edition a.lengths.now a.buf.now)) = c.sum_of-sum.ensures in
    let told : c.sum_of-sum.result ≡ length c.args.buf.now = omega arith in
    let sums : sum_of ((let a = c.args in plan a.edition a.lengths.now a.buf.now)) ≡ length ((let a = c.args in plan a.edition a.lengths.now a.buf.now)).octets = sym (sum) ∙ told in
    rw (← behind) (rw (identity, le-ltb _ _ (few), eq-eqb _ _ (sums), le-ltb _ _ c.if-given-needed.false))
