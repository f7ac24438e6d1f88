-- `bad_claims` meets its contract: the counts so far are within their limits, and the sum of the larger of held and floor within the slots.
use Prim.Native.Nat.{◌≤◌}
use mathlib.Core.Path.{◌≡◌}
use mathlib.Core.Bool.{false}
use Rattle.pooling.specs.Pool.{sum, any_below, claim_at}
use Rattle.pooling.specs.Share.{is_past_limit}
use Rattle.sharing.proofs.inner.settings.bad_claims.Given as goal

abbrev pub invariant-loop-k : goal.invariant-loop-k
invariant-loop-k l = (l.sum ≡ sum (claim_at l.pool) l.k) × ((l.sum ≤ l.slots) × (any_below (is_past_limit l.pool) l.k ≡ false))
