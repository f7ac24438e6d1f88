-- `shift` meets its contract: what is copied is the n numbers from `from` on, and numbers moved to their own place stay.
use Rattle.std.proofs.Common.{arith, ◌≡◌, ◌+◌, ◌-◌}
use Rattle.ranges.specs.Inner.Moves.{over}
use Rattle.ranges.proofs.Over.{over-same}
use Rattle.lists.proofs.inner.moves.shift.Goals as goal

pub returns-then-from-to : goal.returns-then-from-to
unfolding over
returns-then-from-to c =
    let a = c.args in
    let e : a.from + a.n - a.from ≡ a.n = omega arith in
    rw e at c.copy_within.ensures.after

pub returns-else-from-to : goal.returns-else-from-to
returns-else-from-to c = rw c.if-from-to.false (over-same c.args.list.now c.args.to c.args.n)
