-- `nak_parser::inner::check_packet`: the outcome of the requests ahead is that of all.
use Rattle.std.proofs.Common.{◌≡◌, ◌+◌, ◌*◌, ◌-◌, Bool, true, List, [], drop}
use Rattle.outcomes.specs.Outcome.{Outcome, accepted}
use Rattle.outcomes.specs.Checks.{first_of}
use Rattle.ranges.specs.Range.{Range}
use Rattle.nak.specs.Request.{checks_from}
use Rattle.nak_parsing.specs.Parser.{requests_in}
use Rattle.nak_parser.proofs.inner.check_packet.Given as goal

-- what the checks of requests say
abbrev said : Bool → List Range → Outcome
said none rs = first_of (checks_from none rs) (accepted [])

abbrev pub invariant-loop-i : goal.invariant-loop-i
invariant-loop-i l = said l.none (requests_in l.f (l.count - l.i) (drop (l.from + 2 * l.f * l.i) l.packet)) ≡ said true (requests_in l.f l.count (drop l.from l.packet))
