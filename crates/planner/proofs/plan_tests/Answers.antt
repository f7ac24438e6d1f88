-- `plan_tests` meets its contract: each test over all PDUs before the next.
use native.Mathlib.Omega.{arith}
use mathlib.Core.Path.{sym, ◌∙◌}
use mathlib.Core.Bool.{true≢false}
use mathlib.Core.List.{[]}
use borrow.Author.Tests.{lt-ltb, le-ltb}
use Rattle.ranges.specs.Store.{counted}
use Rattle.outcomes.specs.Outcome.{accepted}
use Rattle.planning.specs.Plan.{pdus}
use Rattle.planning.specs.Tests.{is_unwanted, is_left_out, is_too_often, is_absent, wanted}
use Rattle.plan_passes.specs.Pdus.{plan_of}
use Rattle.planner.proofs.Tested.{behind5, met, at_fault, lacking, past, number-of, past4, past5}
use Rattle.planner.proofs.Union.{union-same, union_other}
use Rattle.planner.proofs.plan_tests.Goals as goal

pub returns-then-not-same_pairs-clause-result_value : goal.returns-then-not-same_pairs-clause-result_value
returns-then-not-same_pairs-clause-result_value c =
    let a = c.args in
    let p = plan_of a.pdus.now in
    let ms = counted a.list.now a.rec.count in
    let r = c.in-Ok.ensures.runs in
    met 5 (pdus p) (is_unwanted p ms) (is_left_out p ms) _ (behind5 a.rec a.list.now a.identity p) (accepted [])
    (number-of (is_unwanted p ms) (pdus p) c.first_unwanted.result c.first_unwanted.ensures c.unwrap_or-unwanted.ensures)
    (union_other p ms _ r.1 c.requires.count_in_bounds.1 (λ h. true≢false (sym (c.same_pairs.ensures.1 h) ∙ c.if-not-same_pairs.true)))
    ∙ sym (past4 a.rec a.list.now a.identity p c.in_default.ensures c.in_default-first_other.ensures c.in_default-first_beyond.ensures r.0)

pub returns-in-Err-first_too_often-clause-result_value : goal.returns-in-Err-first_too_often-clause-result_value
returns-in-Err-first_too_often-clause-result_value c =
    let a = c.args in
    let p = plan_of a.pdus.now in
    let w = wanted a.rec in
    let r = c.in-Ok.ensures.runs in
    let e = rw c.times_wanted-wanted.ensures at c.in-Err-first_too_often.ensures in
    at_fault 6 (pdus p) (is_too_often p w) (is_absent p w) _ [] (accepted []) e.0 e.1
    ∙ sym
    (past5 a.rec a.list.now a.identity p c.in_default.ensures c.in_default-first_other.ensures c.in_default-first_beyond.ensures r.0
    (union-same p (counted a.list.now a.rec.count) _ r.1 (c.same_pairs.ensures.0 c.if-not-same_pairs.false)))

pub returns-then-times-wanted-clause-result_value : goal.returns-then-times-wanted-clause-result_value
returns-then-times-wanted-clause-result_value c =
    let a = c.args in
    let p = plan_of a.pdus.now in
    let w = wanted a.rec in
    let r = c.in-Ok.ensures.runs in
    let e = rw c.times_wanted-wanted.ensures at c.in-Ok-first_too_often.ensures in
    lacking 6 (pdus p) (is_too_often p w) (is_absent p w) _ [] (accepted []) (sym e.0) (omega arith) (lt-ltb _ _ (omega (arith, e.1, c.if-times-wanted.true, c.times_wanted-wanted.ensures)))
    ∙ sym
    (past5 a.rec a.list.now a.identity p c.in_default.ensures c.in_default-first_other.ensures c.in_default-first_beyond.ensures r.0
    (union-same p (counted a.list.now a.rec.count) _ r.1 (c.same_pairs.ensures.0 c.if-not-same_pairs.false)))

pub returns-clause-result_value : goal.returns-clause-result_value
returns-clause-result_value c =
    let a = c.args in
    let p = plan_of a.pdus.now in
    let w = wanted a.rec in
    let r = c.in-Ok.ensures.runs in
    let e = rw c.times_wanted-wanted.ensures at c.in-Ok-first_too_often.ensures in
    sym
    (past5 a.rec a.list.now a.identity p c.in_default.ensures c.in_default-first_other.ensures c.in_default-first_beyond.ensures r.0
    (union-same p (counted a.list.now a.rec.count) _ r.1 (c.same_pairs.ensures.0 c.if-not-same_pairs.false))
    ∙ past 6 (pdus p) (is_too_often p w) (is_absent p w) _ [] (accepted []) (sym e.0) (omega arith) (le-ltb _ _ (omega (arith, e.1, c.if-times-wanted.false, c.times_wanted-wanted.ensures))))
