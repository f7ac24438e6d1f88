-- `sequence_checks` meets its contract: the record's own checks, and behind them those of the order.
use Rattle.std.proofs.Common.{◌∙◌, []}
use Rattle.outcomes.specs.Outcome.{accepted}
use Rattle.outcomes.specs.Answered.{nothing}
use Rattle.outcomes.proofs.Answered.{handed_on}
use Rattle.outcomes.proofs.FirstOf.{none_of}
use Rattle.reception.specs.Record.{record_checks}
use Rattle.reception.proofs.Sound.{refused_record, behind_record}
use Rattle.sequence.specs.Sequence.{order_checks}
use Rattle.nak_sequence.proofs.sequence_checks.Goals as goal

pub returns-in_err-record_checks : goal.returns-in_err-record_checks
returns-in_err-record_checks c =
    let a = c.args in
    let r = c.in_err-record_checks.field-0.0 in
    handed_on nothing c.from_residual.result r c.from_residual.ensures.1
    ∙ refused_record a.list.now a.rec r (order_checks a.rec a.list.now a.order a.given) (accepted []) c.in_err-record_checks.ensures

pub order_checks-requires : goal.order_checks-requires
order_checks-requires c = none_of (record_checks c.args.rec c.args.list.now) c.in_ok-record_checks.ensures

pub returns : goal.returns
returns c =
    let a = c.args in
    let passed = none_of (record_checks a.rec a.list.now) c.in_ok-record_checks.ensures in
    c.order_checks.ensures ∙ behind_record a.list.now a.rec passed (order_checks a.rec a.list.now a.order a.given) (accepted [])
