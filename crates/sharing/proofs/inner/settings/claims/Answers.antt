-- `claims` meets its contract: the larger of held and floor is summed.
use native.Mathlib.Omega.{arith}
use Prim.Native.Nat.{◌+◌, ◌≤◌}
use mathlib.Core.Path.{◌≡◌}
use Rattle.pooling.specs.declared.Pool.{Pool}
use Rattle.pooling.specs.Pool.{sum, claim_at, claimed}
use Rattle.pooling.proofs.Sums.{sum-within}
use Rattle.sharing.proofs.inner.settings.claims.Goals as goal

pub overflow_add-sum : goal.overflow_add-sum
overflow_add-sum c =
    let p : Pool = c.args.pool in
    let w : sum (claim_at p) c.loop-k.k + claim_at p c.loop-k.k ≤ claimed p = sum-within (claim_at p) c.loop-k.k p.used c.loop-k-test.true in
    let m : c.claim-sum.result ≡ claim_at p c.loop-k.k = c.claim-sum.ensures in
    omega (arith, w, m, c.loop-k.invariant, c.requires.1)
