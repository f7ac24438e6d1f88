-- The slots behind what was stored.
use mathlib.Core.List.{List}
use Prim.Native.Nat.{ℕ}
use lib.ListN.{length}
use Rattle.ranges.specs.Range.{Range}
use Rattle.ranges.specs.Store.{stored}
use Rattle.ranges.proofs.Stored.{given_up, drop-stored}
use Rattle.segment_store.specs.Slots.{Slots}

pub stored-slots : (rs : List Range) (n : ℕ) (xs : List ℕ) → Slots xs n (stored rs n xs) (length rs)
stored-slots rs n xs = record { given_up = given_up rs n xs; kept = λ i. drop-stored i rs n xs }
