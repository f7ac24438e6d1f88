-- `any_other` meets its contract: no transfer so far but the one named is 10.
use native.Mathlib.Omega.{arith}
use Prim.Native.Nat.{◌+◌, ◌≤◌}
use mathlib.Core.Path.{sym, ◌∙◌}
use Rattle.pooling.specs.declared.Pool.{Pool}
use Rattle.pooling.specs.Pool.{count_at}
use Rattle.pooling.specs.Share.{base, total}
use Rattle.pooling.proofs.Sums.{sum-within, some_any}
use Rattle.sharing.specs.Inner.{is_bad_other}
use Rattle.sharing.proofs.inner.checks.any_other.Goals as goal

pub returns-then-bad_other : goal.returns-then-bad_other
returns-then-bad_other c =
    let s = c.args in
    let p : Pool = s.pool in
    sym (some_any (is_bad_other p s.list.now s.i) c.loop-k.k p.used c.loop-k-test.true (sym c.bad_other.ensures ∙ c.if-bad_other.true))

pub overflow_add-at : goal.overflow_add-at
overflow_add-at c =
    let p : Pool = c.args.pool in
    let w : base p c.loop-k.k + count_at p c.loop-k.k ≤ total p = sum-within (count_at p) c.loop-k.k p.used c.loop-k-test.true in
    omega (arith, w, c.loop-k.invariant.0, c.requires.pool_in_bounds.0, c.requires.pool_in_bounds.1)
