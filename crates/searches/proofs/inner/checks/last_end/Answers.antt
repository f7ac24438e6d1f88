-- `last_end` meets its contract: the last pair's end is the last range's.
use Rattle.std.proofs.Common.{arith}
use Rattle.ranges.specs.Store.{counted}
use Rattle.ranges.proofs.Flat.{length-counted}
use Rattle.searches.proofs.Scans.{last-pair}
use Rattle.searches.proofs.inner.checks.last_end.Goals as goal

pub returns-in-len1-up : goal.returns-in-len1-up
returns-in-len1-up c =
    let a = c.args in
    let n = length-counted a.list.now a.count c.requires in
    rw c.counted.ensures.value (last-pair (counted a.list.now a.count) (omega (arith, c.in-len1-up.len_at_least, c.counted.ensures.len)))
