-- `near_above` meets its contract: what is read of range j says on which side the place lies.
use Rattle.std.proofs.Common.{arith, suc, ◌≤◌, ◌≡◌, ◌∙◌}
use Rattle.ranges.specs.Store.{counted}
use Rattle.ranges.specs.Inner.Cut.{behind}
use Rattle.ranges.proofs.Halving.{behind_le, behind_gt}
use Rattle.inserting.proofs.Placed.{behind-later}
use Rattle.inserting.proofs.inner.near_above.Goals as goal

pub returns-then-e-start_at-clause-value : goal.returns-then-e-start_at-clause-value
returns-then-e-start_at-clause-value c =
    let a = c.args in
    let k = behind_le a.list.now a.n c.requires.i_le_n.1 a.i (suc a.e) c.loop-j.j c.loop-j.auto.j (omega arith) (omega arith) in
    omega arith

pub loop-j-preserved : goal.loop-j-preserved
loop-j-preserved c =
    let a = c.args in
    let k = behind_gt a.list.now a.n c.requires.i_le_n.1 c.requires.coalesced a.i (suc a.e) c.loop-j.j c.loop-j.auto.j (omega arith) (omega arith) in
    omega arith

pub returns-clause-value : goal.returns-clause-value
returns-clause-value c =
    let a = c.args in
    let near = c.min-near.result in
    let e : c.loop-j.j ≡ near = omega arith in
    let k : near ≤ behind a.i (suc a.e) (counted a.list.now a.n) = rw e at c.loop-j.invariant in
    c.first_above.ensures.value ∙ behind-later a.i near (suc a.e) (counted a.list.now a.n) (omega arith) k
