-- `nak_parser::parse`: what reading says, in plain values.
use Rattle.std.proofs.Common.{◌∙◌}
use Rattle.nak_parsing.proofs.ParsedOf.{parsed_as, parsed_by}
use Rattle.nak_parser.proofs.parse.Goals as goal

pub returns-in-Ok : goal.returns-in-Ok
returns-in-Ok c = c.accepted.ensures ∙ parsed_as c.args.edition c.args.packet.now c.in-Ok.said c.in-Ok.ensures.outcome c.in-Ok.ensures.says

pub returns-in-Err : goal.returns-in-Err
returns-in-Err c = c.refused.ensures ∙ parsed_by c.args.edition c.args.packet.now c.in-Err.r c.in-Err.ensures.outcome
