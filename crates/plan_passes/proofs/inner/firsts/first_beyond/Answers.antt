-- `first_beyond` meets its contract: the first packet that passes is that of the first PDU at fault.
use mathlib.Core.List.{List}
use Prim.Native.Nat.{ℕ}
use borrow.Author.Rules.{rules}
use borrow.Author.Tests.{tests}
use Rattle.ranges.specs.Range.{range, some}
use Rattle.nak_parsing.specs.Parser.{parsed_of}
use Rattle.nak_parsing.specs.Step.{requests_given}
use Rattle.planning.specs.Tests.{is_outside}
use Rattle.plan_passes.proofs.Packets.{first_from_position}
use Rattle.plan_passes.proofs.inner.firsts.first_beyond.Goals as goal

pub returns : goal.returns
returns c =
    first_from_position (λ (os : List ℕ). some (is_outside (range (parsed_of c.args.pdus.now.edition os).scope_start (parsed_of c.args.pdus.now.edition os).scope_end))
    (requests_given c.args.pdus.now.edition os))
    c.args.pdus.now.lengths.now c.args.pdus.now.buf.now c.packets.result c.position.new.self _ _ c.packets.ensures.all
    c.position.ensures.ran (λ x b q k. search (rules, tests))
