-- `claims` meets its contract: the larger of held and floor is summed.
use mathlib.Core.Path.{◌≡◌}
use Rattle.pooling.specs.Pool.{sum, claim_at}
use Rattle.sharing.proofs.inner.settings.claims.Given as goal

abbrev pub invariant-loop-k : goal.invariant-loop-k
invariant-loop-k l = l.sum ≡ sum (claim_at l.pool) l.k
