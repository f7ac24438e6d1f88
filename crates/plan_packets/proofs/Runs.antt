-- No more runs than ranges.
use mathlib.Core.List.{List, [], ◌∷◌}
use Prim.Native.Nat.{◌+◌, ◌≤◌}
use native.Mathlib.Omega.{arith}
use lib.ListN.{length}
use Rattle.ranges.specs.Range.{Range}
use Rattle.ranges.specs.Insert.{join}
use Rattle.ranges.proofs.Insert.{join-length}
use Rattle.segment_store.specs.Coalesce.{gather, maximal_runs}

gather-length : (qs rs : List Range) → length (gather qs rs) ≤ length qs + length rs
gather-length qs [] = omega arith
gather-length qs (r ∷ rs) =
    let i = gather-length (join r qs) rs in
    let j = join-length r qs in
    omega arith

pub runs-length : (rs : List Range) → length (maximal_runs rs) ≤ length rs
unfolding maximal_runs
runs-length rs = let k = gather-length [] rs in omega arith
