-- `replace` meets its contract: the run moved, the pairs written, the slots given up tidied.
use Rattle.std.proofs.Common.{arith, ◌+◌, ◌-◌, length}
use Rattle.lists.specs.Pairs.{ranges_of}
use Rattle.ranges.proofs.Replaced.{done, length-replaced}
use Rattle.lists.proofs.inner.moves.replace.Goals as goal

pub returns-clause-value : goal.returns-clause-value
returns-clause-value c =
    let a = c.args in
    let r = length-replaced a.list.now a.n a.i a.j (ranges_of a.pairs.now) (omega arith) (omega arith) (omega arith) in
    omega arith

pub returns-clause-list_after : goal.returns-clause-list_after
returns-clause-list_after c =
    let a = c.args in
    let k = length a.pairs.now in
    done a.list.now a.n a.i a.j (ranges_of a.pairs.now) (omega arith) (omega arith) (omega arith) k (a.n + k + a.i - a.j) _ _ _ c.write.ensures.size (omega arith) (omega arith)
    c.shift.ensures c.write.ensures.list_after c.tidy.ensures
