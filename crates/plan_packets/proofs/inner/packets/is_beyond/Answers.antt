-- `is_beyond` meets its contract: the requests ahead are those that reading gives.
use mathlib.Core.Path.{◌∙◌}
use borrow.Author.Rules.{rules}
use borrow.Author.Tests.{tests}
use Rattle.std.proofs.lemmas.Iterator.Search.{any_from_yields_List}
use Rattle.std.proofs.lemmas.Iterator.Consumers.{YieldsList-from_first}
use Rattle.ranges.specs.Range.{range}
use Rattle.nak_parsing.specs.Parser.{parsed_of}
use Rattle.nak_parsing.specs.Step.{requests_given}
use Rattle.planning.specs.Tests.{is_outside}
use Rattle.plan_packets.specs.Requests.{ahead, as_range}
use Rattle.plan_packets.proofs.Tests.{some_list}
use Rattle.plan_packets.proofs.inner.packets.is_beyond.Goals as goal

pub returns : goal.returns
returns c =
    let p = parsed_of c.args.edition c.args.packet.now in
    any_from_yields_List (is_outside (range p.scope_start p.scope_end)) c.any.new.self _ _ c.any.ensures.ran
    (YieldsList-from_first as_range ahead {s = c.read.result.1} _ c.read.ensures.requests)
    (λ x b q k. search (rules, tests))
    ∙ some_list (is_outside (range p.scope_start p.scope_end)) (requests_given c.args.edition c.args.packet.now)
