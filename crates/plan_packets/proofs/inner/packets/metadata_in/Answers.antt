-- `metadata_in` meets its contract: as many requests pass the filter as ask for metadata.
use mathlib.Core.Path.{ap, ◌∙◌}
use mathlib.Core.Logic.{inl}
use native.Mathlib.Omega.{arith}
use lib.ListN.{length}
use borrow.Author.Rules.{rules}
use borrow.Author.Tests.{tests}
use Rattle.std.proofs.lemmas.Iterator.Consumers.{YieldsList-from_first, YieldsList-from_filter, YieldsList-at, count_from_yields_List}
use Rattle.nak.specs.Request.{is_metadata}
use Rattle.nak_parsing.specs.Step.{requests_given}
use Rattle.plan_packets.specs.Requests.{ahead, as_range}
use Rattle.plan_packets.specs.declared.inner.requests.Requests.{Requests}
use Rattle.plan_packets.proofs.Given.{few}
use Rattle.plan_packets.proofs.Tests.{asked_filtered}
use Rattle.plan_packets.proofs.inner.packets.metadata_in.Goals as goal

pub count-requires-clause-fits : goal.count-requires-clause-fits
count-requires-clause-fits c = inl (omega (arith, few c.args.edition c.args.packet.now, ap length c.read.ensures.requests, ap (λ (s : Requests). length (ahead s)) c.filter.ensures.source))

pub returns-clause-value : goal.returns-clause-value
returns-clause-value c =
    count_from_yields_List c.filter.result _ c.count.ensures.ran
    (YieldsList-from_filter _ is_metadata (YieldsList-at c.filter.ensures.source (YieldsList-from_first as_range ahead {s = c.read.result.1} _ c.read.ensures.requests)) c.filter.ensures.closure
    (λ x b q k. search (rules, tests)))
    ∙ asked_filtered (requests_given c.args.edition c.args.packet.now)

pub returns-clause-upper_bound : goal.returns-clause-upper_bound
returns-clause-upper_bound c =
    omega (arith, few c.args.edition c.args.packet.now, ap length c.read.ensures.requests, ap (λ (s : Requests). length (ahead s)) c.filter.ensures.source, c.count.ensures.bound)
