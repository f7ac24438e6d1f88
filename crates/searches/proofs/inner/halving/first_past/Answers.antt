-- `first_past` meets its contract: the ends ascend, and where those above a begin is the place.
use Rattle.std.proofs.Common.{rules, arith, ℕ, Bool, List, leb, map, get_or}
use Rattle.std.proofs.lemmas.List.Sorted.{IsPartitionPoint-from_clause, IsPartitionedBy-leb}
use Rattle.ranges.specs.Store.{counted}
use Rattle.ranges.specs.Inner.Cut.{past}
use Rattle.ranges.proofs.Flat.{length-counted}
use Rattle.lists.specs.Pairs.{pair_of}
use Rattle.searches.proofs.Scans.{parted, ends_ascend, not_leb}
use Rattle.searches.proofs.inner.halving.first_past.Goals as goal

pub returns-clause-value : goal.returns-clause-value
returns-clause-value c =
    let a = c.args in
    let rs = counted a.list.now a.n in
    let p : List ℕ → Bool = λ q. leb (get_or q 1 0) a.a in
    let up = IsPartitionedBy-leb (λ q. get_or q 1 0) (map pair_of rs) a.a (ends_ascend 0 rs c.requires.coalesced) in
    let w = IsPartitionPoint-from_clause p _ _ (rw c.counted.ensures.value at c.partition_point.ensures.partitioned) up (λ x r f k. search rules) in
    parted p (past a.a) rs c.partition_point.result (λ r. not_leb r.end a.a) (omega (arith, c.partition_point.ensures.bound, length-counted a.list.now a.n c.requires.n_in_bounds)) w
