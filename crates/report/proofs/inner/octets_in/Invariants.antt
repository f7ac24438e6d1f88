-- What `octets_in` keeps: the octets of the first i ranges and those of the others are the list's.
use Rattle.std.proofs.Common.{◌≡◌, ◌+◌, drop}
use Rattle.ranges.specs.Store.{counted}
use Rattle.holding.proofs.Counting.{lengths}
use Rattle.report.proofs.inner.octets_in.Given as goal

abbrev pub invariant-loop-i : goal.invariant-loop-i
invariant-loop-i l = l.octets + lengths (drop l.i (counted l.list l.count)) ≡ lengths (counted l.list l.count)
