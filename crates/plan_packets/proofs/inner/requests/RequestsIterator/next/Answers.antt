-- The first request ahead is handed back, and those behind it are left.
use native.Mathlib.Omega.{arith}
use mathlib.Core.Path.{ap}
use lib.ListN.{length}
use borrow.Author.Rules.{rules}
use Rattle.octets.specs.Flag.{field_length}
use Rattle.plan_packets.proofs.Ahead.{requests-more}
use Rattle.plan_packets.proofs.Given.{four}
use Rattle.plan_packets.proofs.inner.requests.RequestsIterator.next.Goals as goal

pub returns-clause-steps : goal.returns-clause-steps
returns-clause-steps c =
    let f = c.field_length-f.ensures in
    let k = four c.args.self.now.flag in
    let w = rw f at c.in_ok-request.ensures.cases in
    rw (c.get.ensures, c.get-2.ensures, f, w.1, w.2) (requests-more (field_length c.args.self.now.flag) c.args.self.now.octets.now (omega arith) w.0)

pub returns-clause-goes : goal.returns-clause-goes
returns-clause-goes c = let l = ap length (returns-clause-steps c) in search (rules, arith, l)
