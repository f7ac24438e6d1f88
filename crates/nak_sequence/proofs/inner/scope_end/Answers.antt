-- `scope_end` meets its contract.
use native.Mathlib.Omega.{arith}
use borrow.Author.Tests.{lt-ltb, le-ltb}
use Rattle.nak_sequence.proofs.Listed.{length-entries, count_le}
use Rattle.nak_sequence.proofs.inner.scope_end.Goals as goal

pub overflow_add-f : goal.overflow_add-f
overflow_add-f c = let a = c.args in omega (arith, count_le a.rec)

pub returns-then-f-k : goal.returns-then-f-k
returns-then-f-k c =
    let a = c.args in
    rw (length-entries a.rec a.list.now (omega arith), lt-ltb _ _ (rw c.entry_count.ensures at c.if-f-k.true))
    c.entry_end.ensures

pub returns : goal.returns
returns c =
    let a = c.args in
    rw (length-entries a.rec a.list.now (omega arith), le-ltb _ _ (rw c.entry_count.ensures at c.if-f-k.false))
