-- `segment_in_store` meets its contract: only 10 refuses, and else the counted pairs are asked.
use Rattle.std.proofs.Common.{arith}
use Rattle.ranges.proofs.Good.{good}
use Rattle.outcomes.proofs.Ends.{checks-passed}
use Rattle.segment_store.specs.Checks.{store_checks}
use Rattle.lost_segments.proofs.segment_in_store.segment_in_store.Goals as goal

pub any_holds-requires : goal.any_holds-requires
any_holds-requires c =
    let a = c.args in
    let n = checks-passed (store_checks a.list.now a.st) c.store_checks.result c.store_checks.ensures c.in_ok-store_checks.was in
    let room = (good _ _ _ n.0).room in
    omega arith
