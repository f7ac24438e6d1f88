-- A refusal of the record's checks, or the octets of the list.
use Rattle.std.proofs.Common.{◌∙◌, [], ◌∷◌, arith, rules}
use Rattle.outcomes.specs.Outcome.{accepted}
use Rattle.outcomes.specs.Answered.{itself}
use Rattle.outcomes.proofs.Answered.{handed_on}
use Rattle.outcomes.proofs.FirstOf.{first-refused, none_of}
use Rattle.reception.specs.Record.{record_checks}
use Rattle.reception.proofs.Sound.{sound}
use Rattle.holding.specs.MissingOctets.{missing_octets}
use Rattle.report.proofs.missing_octets.missing_octets.Goals as goal

pub returns-in_err-record_checks : goal.returns-in_err-record_checks
returns-in_err-record_checks c =
    let a = c.args in
    let r = c.in_err-record_checks.field-0.0 in
    handed_on itself c.from_residual.result r c.from_residual.ensures.1
    ∙ first-refused (record_checks a.rec a.list.now) r (accepted (missing_octets a.rec a.list.now ∷ [])) c.in_err-record_checks.ensures

pub octets_in-requires : goal.octets_in-requires
octets_in-requires c =
    let a = c.args in
    let s = sound a.list.now a.rec (none_of (record_checks a.rec a.list.now) c.in_ok-record_checks.ensures) in
    let room = s.store.room in
    let whole = s.whole in
    let above = s.above in
    record { count_in_bounds = omega arith; coalesced = search rules }
