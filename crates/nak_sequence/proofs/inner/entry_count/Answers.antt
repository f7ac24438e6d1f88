-- `entry_count` meets its contract.

use Rattle.nak_sequence.proofs.inner.entry_count.Goals as goal

pub returns-then-rec : goal.returns-then-rec
returns-then-rec c = rw c.if-rec.true

pub returns-else-rec : goal.returns-else-rec
returns-else-rec c = rw c.if-rec.false
