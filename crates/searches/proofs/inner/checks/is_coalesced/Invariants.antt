-- `is_coalesced`: the pairs from i on may follow the end before them exactly if all of them are coalesced.
use Rattle.std.proofs.Common.{◌-◌, ◌≤◌, ◌≡◌, drop}
use Rattle.ranges.specs.Inner.Checks.{bound}
use Rattle.ranges.specs.Range.{is_above}
use Rattle.ranges.specs.Store.{counted}
use Rattle.searches.proofs.inner.checks.is_coalesced.Given as goal

abbrev pub invariant-loop-i : goal.invariant-loop-i
invariant-loop-i l = (l.i ≤ l.count) × (is_above (bound l.i l.prev) (drop l.i (counted l.list l.count)) ≡ is_above 0 (counted l.list l.count))

abbrev pub decreases-loop-i : goal.decreases-loop-i
decreases-loop-i l = l.count - l.i
