-- `check_plan` meets its contract: a refusal of its checks leaves the slots as they were; else the tests answer, and the slots are (0, 0).
use Rattle.std.proofs.Common.{arith, ◌≡◌, ◌≤◌, ◌*◌, ◌∙◌, ℕ, List, [], length}
use Rattle.outcomes.specs.Outcome.{accepted}
use Rattle.outcomes.specs.Answered.{nothing}
use Rattle.outcomes.specs.Checks.{first_of, NoneOf}
use Rattle.outcomes.proofs.Answered.{handed_on}
use Rattle.outcomes.proofs.FirstOf.{none_of}
use Rattle.planning.specs.Plan.{plan}
use Rattle.planning.specs.Check.{plan_checks}
use Rattle.planner.proofs.Ends.{refused_by, held-room, held_whole, few, sums, room, tested-by}
use Rattle.planner.proofs.check_plan.Goals as goal

pub returns-in_err-plan_checks : goal.returns-in_err-plan_checks
returns-in_err-plan_checks c =
    let a = c.args in
    let r = c.in_err-plan_checks.field-0.0 in
    let w = refused_by a.rec a.list.now a.identity (plan a.edition a.lengths.now a.buf.now) a.scratch.now r c.in_err-plan_checks.ensures in
    record { result_value = handed_on nothing c.from_residual.result r c.from_residual.ensures.1 ∙ w.0; scratch_after = w.1 }

pub invariant_of-pdus : goal.invariant_of-pdus
invariant_of-pdus c =
    let a = c.args in
    let p = plan a.edition a.lengths.now a.buf.now in
    let n = none_of (plan_checks a.rec a.list.now a.identity p (length a.scratch.now)) c.in_ok-plan_checks.ensures in
    record { few = few a.rec a.list.now a.identity p a.scratch.now n; whole = sums a.rec a.list.now a.identity p a.scratch.now n }

pub plan_tests-tested-requires : goal.plan_tests-tested-requires
plan_tests-tested-requires c =
    let a = c.args in
    let p = plan a.edition a.lengths.now a.buf.now in
    let n = none_of (plan_checks a.rec a.list.now a.identity p (length a.scratch.now)) c.in_ok-plan_checks.ensures in
    record {
      count_in_bounds = (held-room a.rec a.list.now a.identity p a.scratch.now n, held_whole a.rec a.list.now a.identity p a.scratch.now n);
      buf_in_bounds = room a.rec a.list.now a.identity p a.scratch.now n;
    }

pub tidy-requires : goal.tidy-requires
tidy-requires c =
    let a = c.args in
    let p = plan a.edition a.lengths.now a.buf.now in
    let n = none_of (plan_checks a.rec a.list.now a.identity p (length a.scratch.now)) c.in_ok-plan_checks.ensures in
    let h = room a.rec a.list.now a.identity p a.scratch.now n in
    (omega arith, omega (arith, h, c.scratch-1.given))

pub returns : goal.returns
returns c =
    let a = c.args in
    let p = plan a.edition a.lengths.now a.buf.now in
    let n = none_of (plan_checks a.rec a.list.now a.identity p (length a.scratch.now)) c.in_ok-plan_checks.ensures in
    let t = c.plan_tests-tested.ensures in
    let w = tested-by a.rec a.list.now a.identity p a.scratch.now n _ _ _ t.result_value t.scratch_unchanged c.tidy.ensures in
    record { result_value = w.0; scratch_after = w.1 }
