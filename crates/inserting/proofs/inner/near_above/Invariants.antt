-- `near_above`: no range before j starts above e.
use Rattle.std.proofs.Common.{suc, ◌≤◌}
use Rattle.ranges.specs.Store.{counted}
use Rattle.ranges.specs.Inner.Cut.{behind}
use Rattle.inserting.proofs.inner.near_above.Given as goal

abbrev pub invariant-loop-j : goal.invariant-loop-j
invariant-loop-j l = l.j ≤ behind l.i (suc l.e) (counted l.list l.n)
