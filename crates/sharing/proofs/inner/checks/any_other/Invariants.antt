-- `any_other` meets its contract: no transfer so far but the one named is 10.
use mathlib.Core.Path.{◌≡◌}
use mathlib.Core.Bool.{false}
use Rattle.pooling.specs.Pool.{any_below}
use Rattle.pooling.specs.Share.{base}
use Rattle.sharing.specs.Inner.{is_bad_other}
use Rattle.sharing.proofs.inner.checks.any_other.Given as goal

abbrev pub invariant-loop-k : goal.invariant-loop-k
invariant-loop-k l = (l.at ≡ base l.pool l.k) × (any_below (is_bad_other l.pool l.list l.i) l.k ≡ false)
