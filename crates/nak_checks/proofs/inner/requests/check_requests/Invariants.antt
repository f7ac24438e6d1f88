-- `nak_checks::inner::requests::check_requests`: the outcome of the requests ahead is that of all.
use Rattle.std.proofs.Common.{◌≡◌, ◌*◌, Bool, true, List, [], drop}
use Rattle.outcomes.specs.Outcome.{Outcome, accepted}
use Rattle.outcomes.specs.Checks.{first_of}
use Rattle.ranges.specs.Range.{Range}
use Rattle.ranges.specs.Store.{pairs}
use Rattle.nak.specs.Request.{checks_from}
use Rattle.nak_checks.proofs.inner.requests.check_requests.Given as goal

-- what the checks of requests say
abbrev said : Bool → List Range → Outcome
said none rs = first_of (checks_from none rs) (accepted [])

abbrev pub invariant-loop-s : goal.invariant-loop-s
invariant-loop-s l = said l.none (pairs (drop (2 * l.s-index) l.requests)) ≡ said true (pairs l.requests)
