-- `first_above` meets its contract: the starts ascend, and where those above e begin is the place.
use Rattle.std.proofs.Common.{rules, arith, suc, ◌+◌, ℕ, Bool, List, leb, map, drop, ap, get_or}
use Rattle.std.proofs.lemmas.List.{length-drop}
use Rattle.std.proofs.lemmas.List.Sorted.{IsPartitionPoint-from_clause, IsPartitionedBy-leb}
use Rattle.ranges.specs.Store.{counted}
use Rattle.ranges.specs.Inner.Cut.{from}
use Rattle.ranges.proofs.Flat.{length-counted}
use Rattle.ranges.proofs.Without.{coalesced-drop}
use Rattle.lists.specs.Pairs.{pair_of}
use Rattle.searches.proofs.Scans.{parted, starts_ascend, not_leb, pairs-behind}
use Rattle.searches.proofs.inner.halving.first_above.Goals as goal

pub returns-clause-value : goal.returns-clause-value
returns-clause-value c =
    let a = c.args in
    let rs = drop a.i (counted a.list.now a.n) in
    let p : List ℕ → Bool = λ q. leb (get_or q 0 0) a.e in
    let up = IsPartitionedBy-leb (λ q. get_or q 0 0) (map pair_of rs) a.e (starts_ascend 0 rs (coalesced-drop a.i 0 (counted a.list.now a.n) c.requires.coalesced)) in
    let e = pairs-behind (counted a.list.now a.n) a.i c.counted.result.now c.counted.ensures.value in
    let w = IsPartitionPoint-from_clause p _ _ (rw e at c.partition_point.ensures.partitioned) up (λ x r f k. search rules) in
    let n = length-counted a.list.now a.n c.requires.i_le_n.1 in
    let d = length-drop a.i (counted a.list.now a.n) in
    ap (λ (k : ℕ). a.i + k) (parted p (from (suc a.e)) rs c.partition_point.result (λ r. not_leb r.start a.e) (omega (arith, c.partition_point.ensures.bound)) w)
