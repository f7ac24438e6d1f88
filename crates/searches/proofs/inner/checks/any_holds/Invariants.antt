-- `any_holds`: the pairs from i on hold (a, b) exactly if all of them do.
use Rattle.std.proofs.Common.{◌-◌, ◌≤◌, ◌≡◌, drop}
use Rattle.ranges.specs.Range.{some, inside}
use Rattle.ranges.specs.Store.{counted}
use Rattle.searches.proofs.inner.checks.any_holds.Given as goal

abbrev pub invariant-loop-i : goal.invariant-loop-i
invariant-loop-i l = (l.i ≤ l.count) × (some (inside l.a l.b) (drop l.i (counted l.list l.count)) ≡ some (inside l.a l.b) (counted l.list l.count))

abbrev pub decreases-loop-i : goal.decreases-loop-i
decreases-loop-i l = l.count - l.i
