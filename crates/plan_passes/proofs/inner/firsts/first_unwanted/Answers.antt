-- `first_unwanted` meets its contract: the first packet that passes is that of the first PDU at fault.
use mathlib.Core.List.{List}
use Prim.Native.Nat.{ℕ}
use borrow.Author.Rules.{rules}
use borrow.Author.Tests.{tests}
use Rattle.ranges.specs.Store.{counted}
use Rattle.nak_parsing.specs.Step.{requests_given}
use Rattle.planning.specs.Tests.{is_more}
use Rattle.plan_passes.proofs.Packets.{first_from_position}
use Rattle.plan_passes.proofs.inner.firsts.first_unwanted.Goals as goal

pub returns : goal.returns
returns c =
    first_from_position (λ (os : List ℕ). is_more (counted c.args.list.now c.args.count) (requests_given c.args.pdus.now.edition os))
    c.args.pdus.now.lengths.now c.args.pdus.now.buf.now c.packets.result c.position.new.self _ _ c.packets.ensures.all
    c.position.ensures.ran (λ x b q k. search (rules, tests))
