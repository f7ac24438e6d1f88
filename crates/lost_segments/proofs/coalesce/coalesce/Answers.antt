-- `coalesce` meets its contract: only 10 refuses, and a store that it passes has room for the counted pairs.
use Rattle.std.proofs.Common.{arith}
use Rattle.ranges.proofs.Good.{good}
use Rattle.outcomes.proofs.Ends.{checks-passed}
use Rattle.segment_store.specs.Checks.{store_checks}
use Rattle.lost_segments.proofs.coalesce.coalesce.Goals as goal

pub coalesce_counted-requires : goal.coalesce_counted-requires
coalesce_counted-requires c =
    let a = c.args in
    let n = checks-passed (store_checks a.list.now a.st) c.store_checks.result c.store_checks.ensures c.in_ok-store_checks.was in
    let room = (good _ _ _ n.0).room in
    omega arith
