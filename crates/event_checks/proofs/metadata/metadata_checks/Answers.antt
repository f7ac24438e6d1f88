-- A refusal of the record's own checks is the answer, whatever is behind them.
use Rattle.std.proofs.Common.{◌∙◌, []}
use Rattle.outcomes.specs.Outcome.{accepted}
use Rattle.outcomes.specs.Answered.{nothing}
use Rattle.outcomes.proofs.Answered.{handed_on}
use Rattle.reception.specs.Metadata.{mark_checks}
use Rattle.reception.proofs.Sound.{refused_record}
use Rattle.event_checks.proofs.metadata.metadata_checks.Goals as goal

pub returns-in_err-record_checks : goal.returns-in_err-record_checks
returns-in_err-record_checks c =
    let a = c.args in
    let r = c.in_err-record_checks.field-0.0 in
    handed_on nothing c.from_residual.result r c.from_residual.ensures.1
    ∙ refused_record a.list.now a.rec r (mark_checks a.rec) (accepted []) c.in_err-record_checks.ensures
