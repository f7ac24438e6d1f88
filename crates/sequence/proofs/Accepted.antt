-- What a call of the sequence answers where no check is met.
use mathlib.Core.Path.{◌≡◌, sym}
use mathlib.Core.List.{List}
use Prim.Native.Nat.{ℕ, ◌*◌, ◌≤◌}
use lib.ListN.{length}
use borrow.Author.Tests.{le-ltb}
use Rattle.outcomes.specs.Checks.{NoneOf}
use Rattle.outcomes.proofs.FirstOf.{first-none}
use Rattle.reception.specs.Record.{record_checks, Passed}
use Rattle.reception.specs.declared.Reception.{Reception}
use Rattle.reception.proofs.Sound.{none-join}
use Rattle.sequence.specs.Sequence.{largest_budget, Allowed, asked, reported, order_checks, sequence_checks, sequence_outcome}
use Rattle.sequence.specs.declared.Order.{Order}

-- no check of a call is met, in numbers
pub record Checked (rec : Reception) (xs : List ℕ) (o : Order) (given : ℕ) : Type 0 where
  pub passed : Passed xs rec
  pub allowed : Allowed rec xs o
  pub cursor : o.cursor ≤ length (asked rec xs o).entries
  pub budget : o.budget ≤ largest_budget
  pub room : o.budget * o.largest ≤ given

none-met : (rec : Reception) (xs : List ℕ) (o : Order) (given : ℕ) → Checked rec xs o given → NoneOf (sequence_checks rec xs o given)
none-met rec xs o given k =
    let w = k.allowed in
    none-join (record_checks rec xs) (order_checks rec xs o given) k.passed
    (w.identity, (w.reserved, (w.size, (w.numbers, (le-ltb _ _ k.cursor, (le-ltb _ _ k.budget, (le-ltb _ _ k.room, tt)))))))

-- and then it reports its PDUs
pub seq_sent : (rec : Reception) (xs : List ℕ) (o : Order) (given : ℕ) → Checked rec xs o given → reported (asked rec xs o) o ≡ sequence_outcome rec xs o given
seq_sent rec xs o given k = sym (first-none (sequence_checks rec xs o given) (reported (asked rec xs o) o) (none-met rec xs o given k))
