-- `pool_metadata_event` meets its contract: the checks refuse, or the metadata is known.
use mathlib.Core.Path.{◌≡◌, refl, ◌∙◌}
use mathlib.Core.List.{List, [], ◌++◌}
use Prim.Native.Nat.{ℕ}
use native.Mathlib.Omega.{arith}
use Rattle.outcomes.specs.Outcome.{accepted}
use Rattle.outcomes.specs.Checks.{Check, first_of}
use Rattle.outcomes.specs.Answered.{nothing}
use Rattle.outcomes.proofs.Answered.{handed_on}
use Rattle.reception.specs.Metadata.{metadata_checks}
use Rattle.reception.specs.History.{Metadata}
use Rattle.pooling.specs.declared.Pool.{Pool}
use Rattle.pooling.specs.Pool.{record_at}
use Rattle.pooling.specs.Share.{pool_checks, own_list}
use Rattle.pooling.proofs.Ends.{metadata-taken}
use Rattle.sharing.proofs.Numbers.{Numbers, numbers}
use Rattle.pool.proofs.InPool.{passed, split, refused}
use Rattle.pool.proofs.metadata.pool_metadata_event.Goals as goal

module _ (p : Pool) (xs : List ℕ) (i : ℕ) where
  abbrev checks : List Check
  checks = metadata_checks (record_at p i) (own_list p xs i)

  known : accepted [] ≡ first_of (pool_checks p xs i ++ checks) (accepted []) → Numbers p xs i
  known h = numbers p xs i (split p xs i checks h).0

pub returns-in_err-pool_metadata_checks : goal.returns-in_err-pool_metadata_checks
returns-in_err-pool_metadata_checks c =
    let a = c.args in
    let e = c.in_err-pool_metadata_checks in
    let w = refused a.pool.now a.list.now a.i (checks a.pool.now a.list.now a.i) Metadata (accepted []) e.field-0.0 refl e.ensures in
    (handed_on nothing c.from_residual.result e.field-0.0 c.from_residual.ensures.1 ∙ w.0, w.1.0)

pub offset_bounds-pool-i : goal.offset_bounds-pool-i
offset_bounds-pool-i c = let a = c.args in let n = known a.pool.now a.list.now a.i c.in_ok-pool_metadata_checks.ensures in omega (arith, n.few, n.known)

pub bounds-pool-i : goal.bounds-pool-i
bounds-pool-i c = let a = c.args in let n = known a.pool.now a.list.now a.i c.in_ok-pool_metadata_checks.ensures in omega (arith, n.few, n.known)

pub returns : goal.returns
returns c =
    let a = c.args in
    metadata-taken a.pool.now a.list.now a.i (passed a.pool.now a.list.now a.i (checks a.pool.now a.list.now a.i) c.in_ok-pool_metadata_checks.ensures)
