-- `first_reaching` meets its contract: a range reaches s exactly if it ends above the offset before.
use Rattle.std.proofs.Common.{arith, ◌∙◌}
use Rattle.ranges.specs.Store.{counted}
use Rattle.inserting.proofs.Placed.{reaching-next}
use Rattle.inserting.proofs.inner.first_reaching.Goals as goal

pub returns-else-s-eq0-clause-value : goal.returns-else-s-eq0-clause-value
returns-else-s-eq0-clause-value c =
    let a = c.args in
    c.first_past.ensures.value ∙ reaching-next a.s (counted a.list.now a.n) (omega arith)
