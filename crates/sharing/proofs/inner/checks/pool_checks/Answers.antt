-- `pool_checks` meets its contract: the tests in order.
use native.Mathlib.Omega.{arith}
use Prim.Native.Nat.{ℕ, ◌≤◌}
use mathlib.Core.Path.{sym}
use mathlib.Core.List.{List}
use Rattle.ranges.specs.Store.{capacity}
use Rattle.pooling.specs.declared.Pool.{Pool}
use Rattle.pooling.specs.Pool.{claimed}
use Rattle.pooling.specs.Share.{total}
use Rattle.pooling.proofs.Own.{settled, Shared, shared, total-claimed}
use Rattle.sharing.proofs.inner.checks.pool_checks.Goals as goal

pub bad_share-requires : goal.bad_share-requires
bad_share-requires c =
    (settled c.args.pool (capacity c.args.list.now) (sym c.if-bad_settings.ensures)).few

pub any_other-requires : goal.any_other-requires
any_other-requires c =
    let p : Pool = c.args.pool in
    let xs : List ℕ = c.args.list.now in
    let s : Shared p xs = shared p xs (sym c.if-bad_share.ensures) in
    let t : total p ≤ claimed p = total-claimed p in record {
      used_le_most_transfers = (settled p (capacity xs) (sym c.if-bad_settings.ensures)).few;
      pool_in_bounds = (omega (arith, t, s.claims, s.size), omega (arith, s.most, s.size));
    }
