-- `bad_claims` meets its contract: the counts so far are within their limits, and the sum of the larger of held and floor within the slots.
use native.Mathlib.Omega.{arith}
use Prim.Native.Nat.{◌+◌, ◌≤◌, ◌<◌}
use mathlib.Core.Path.{◌≡◌, sym}
use borrow.Author.Tests.{lt-ltb}
use Rattle.ranges.proofs.Test.{or_true}
use Rattle.pooling.specs.declared.Pool.{Pool}
use Rattle.pooling.specs.Pool.{count_at, limit_at, sum, any_below, claim_at, claimed}
use Rattle.pooling.specs.Share.{is_past_limit}
use Rattle.pooling.proofs.Sums.{sum-within, some_any}
use Rattle.sharing.proofs.inner.settings.bad_claims.Goals as goal
use Rattle.sharing.proofs.inner.settings.bad_claims.Goals.{then-pool-k-via-then-pool-k, then-pool-k-via-else-pool-k+then-slots-sum}

pub returns-then-pool-k : goal.returns-then-pool-k
returns-then-pool-k c =
    elim c.then-pool-k.branch [
      | then-pool-k-via-then-pool-k w ↦
          let p : Pool = c.args.pool in
          let k : limit_at p c.loop-k.k < count_at p c.loop-k.k = omega (arith, w.if-pool-k.true) in
          rw (some_any (is_past_limit p) c.loop-k.k p.used c.loop-k-test.true (lt-ltb _ _ k))
      | then-pool-k-via-else-pool-k+then-slots-sum w ↦
          let p : Pool = c.args.pool in
          let t : sum (claim_at p) c.loop-k.k + claim_at p c.loop-k.k ≤ claimed p = sum-within (claim_at p) c.loop-k.k p.used c.loop-k-test.true in
          let e : c.loop-k.sum ≡ sum (claim_at p) c.loop-k.k = c.loop-k.invariant.0 in
          let m : c.claim-more.result ≡ claim_at p c.loop-k.k = c.claim-more.ensures in
          let k : c.args.slots < claimed p = omega (arith, w.if-slots-sum.true, t, e, m, c.loop-k.invariant.1.0) in
          rw (lt-ltb _ _ k) (sym (or_true (any_below (is_past_limit p) p.used)))
    ]
