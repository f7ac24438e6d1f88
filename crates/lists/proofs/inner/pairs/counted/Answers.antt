-- `counted` meets its contract: the first n arrays of two are the counted pairs.
use Rattle.std.proofs.Common.{arith, ap, ◌∙◌, ℕ, List, ◌/◌, length, take}
use Rattle.lists.proofs.Chunks.{chunks_counted}
use Rattle.lists.proofs.inner.pairs.counted.Goals as goal

pub returns-clause-value : goal.returns-clause-value
returns-clause-value c =
    let a = c.args in
    ap (λ (ps : List (List ℕ)). take a.n ps) c.as_chunks.ensures.front ∙ chunks_counted a.list.now a.n (length a.list.now / 2) (omega arith) c.requires
