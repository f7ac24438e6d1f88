-- `bad_floors` meets its contract: the floors so far are within their limits, and their sum within the slots.
use native.Mathlib.Omega.{arith}
use Prim.Native.Nat.{◌+◌, ◌≤◌, ◌<◌}
use mathlib.Core.Path.{◌≡◌, sym}
use borrow.Author.Tests.{lt-ltb}
use Rattle.ranges.proofs.Test.{or_true}
use Rattle.pooling.specs.declared.Pool.{Pool}
use Rattle.pooling.specs.Pool.{floor_at, limit_at, sum, any_below, is_floor_above}
use Rattle.pooling.proofs.Sums.{sum-within, some_any}
use Rattle.sharing.proofs.inner.settings.bad_floors.Goals as goal
use Rattle.sharing.proofs.inner.settings.bad_floors.Goals.{then-pool-k-via-then-pool-k, then-pool-k-via-else-pool-k+then-slots-sum}

pub returns-then-pool-k : goal.returns-then-pool-k
returns-then-pool-k c =
    elim c.then-pool-k.branch [
      | then-pool-k-via-then-pool-k w ↦
          let p : Pool = c.args.pool in
          let k : limit_at p c.loop-k.k < floor_at p c.loop-k.k = omega (arith, w.if-pool-k.true) in
          rw (some_any (is_floor_above p) c.loop-k.k p.used c.loop-k-test.true (lt-ltb _ _ k))
      | then-pool-k-via-else-pool-k+then-slots-sum w ↦
          let p : Pool = c.args.pool in
          let t : sum (floor_at p) c.loop-k.k + floor_at p c.loop-k.k ≤ sum (floor_at p) p.used = sum-within (floor_at p) c.loop-k.k p.used c.loop-k-test.true in
          let e : c.loop-k.sum ≡ sum (floor_at p) c.loop-k.k = c.loop-k.invariant.0 in
          let k : c.args.slots < sum (floor_at p) p.used = omega (arith, w.if-slots-sum.true, t, e, c.loop-k.invariant.1.0) in
          rw (lt-ltb _ _ k) (sym (or_true (any_below (is_floor_above p) p.used)))
    ]
