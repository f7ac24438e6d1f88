-- `bad_floors` meets its contract: the floors so far are within their limits, and their sum within the slots.
use Prim.Native.Nat.{◌≤◌}
use mathlib.Core.Path.{◌≡◌}
use mathlib.Core.Bool.{false}
use Rattle.pooling.specs.Pool.{floor_at, sum, any_below, is_floor_above}
use Rattle.sharing.proofs.inner.settings.bad_floors.Given as goal

abbrev pub invariant-loop-k : goal.invariant-loop-k
invariant-loop-k l = (l.sum ≡ sum (floor_at l.pool) l.k) × ((l.sum ≤ l.slots) × (any_below (is_floor_above l.pool) l.k ≡ false))
