-- `bad_other` meets its contract.
use native.Mathlib.Omega.{arith}
use Prim.Native.Nat.{ℕ, ◌+◌, ◌≤◌, ◌<◌}
use mathlib.Core.Path.{◌≡◌}
use Rattle.pooling.specs.declared.Pool.{Pool}
use Rattle.pooling.specs.Pool.{count_at}
use Rattle.pooling.specs.Share.{base, total}
use Rattle.pooling.proofs.Sums.{sum-within}
use Rattle.sharing.proofs.inner.checks.bad_other.Goals as goal

-- the transfer's ranges end within those of the pool
ends : (p : Pool) (k at : ℕ) → k < p.used → at ≡ base p k → at + count_at p k ≤ total p
ends p k at l e =
    let w : base p k + count_at p k ≤ total p = sum-within (count_at p) k p.used l in
    omega (arith, w, e)

pub overflow_add-next : goal.overflow_add-next
overflow_add-next c = let a = c.args in omega (arith, ends a.pool a.k a.at c.requires.k_lt_used.0 c.requires.k_lt_used.1.1)

pub overflow_mul-at : goal.overflow_mul-at
overflow_mul-at c = let a = c.args in omega (arith, ends a.pool a.k a.at c.requires.k_lt_used.0 c.requires.k_lt_used.1.1)

pub overflow_mul-next : goal.overflow_mul-next
overflow_mul-next c = let a = c.args in omega (arith, ends a.pool a.k a.at c.requires.k_lt_used.0 c.requires.k_lt_used.1.1)

pub offset_bounds-list-at : goal.offset_bounds-list-at
offset_bounds-list-at c = let a = c.args in omega (arith, ends a.pool a.k a.at c.requires.k_lt_used.0 c.requires.k_lt_used.1.1)

pub slice_bounds-bad_record-end : goal.slice_bounds-bad_record-end
slice_bounds-bad_record-end c =
    let a = c.args in omega (arith, ends a.pool a.k a.at c.requires.k_lt_used.0 c.requires.k_lt_used.1.1)
