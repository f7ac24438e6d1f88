-- `first_unread` meets its contract: the first packet that passes is that of the first PDU at fault.
use mathlib.Core.List.{List}
use Prim.Native.Nat.{ℕ}
use borrow.Author.Rules.{rules}
use borrow.Author.Tests.{tests}
use mathlib.Core.Bool.{not}
use lib.Dec.{eqb}
use Rattle.nak_parsing.specs.Parser.{parsed_of}
use Rattle.plan_passes.proofs.Packets.{first_from_position}
use Rattle.plan_passes.proofs.inner.firsts.first_unread.Goals as goal

pub returns : goal.returns
returns c =
    first_from_position (λ (os : List ℕ). not (eqb (parsed_of c.args.pdus.now.edition os).refusal 0))
    c.args.pdus.now.lengths.now c.args.pdus.now.buf.now c.packets.result c.position.new.self _ _ c.packets.ensures.all
    c.position.ensures.ran (λ x b q k. search (rules, tests))
