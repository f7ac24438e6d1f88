-- What an accepted data event says: no check was met, and there was room.
use mathlib.Core.Path.{◌≡◌, refl, sym}
use mathlib.Core.Bool.{Bool, true, false, cond, true≢false}
use mathlib.Core.List.{List, [], ◌∷◌}
use Prim.Native.Nat.{ℕ, ◌+◌, ◌≤◌}
use lib.ListN.{length}
use lib.Dec.{ltb, eqb}
use borrow.Author.Tests.{eqb-false, ltb-false}
use Rattle.ranges.specs.Range.{Range}
use Rattle.ranges.specs.Store.{capacity, limit_of}
use Rattle.outcomes.specs.Outcome.{accepted}
use Rattle.outcomes.specs.Checks.{NoneOf}
use Rattle.outcomes.specs.Refusal.{refusing}
use Rattle.outcomes.specs.declared.Refusal.TheVariants as refusal
use Rattle.outcomes.proofs.FirstOf.{first-accepted}
use Rattle.reception.specs.Record.{record_checks, Passed}
use Rattle.reception.specs.declared.Reception.{Reception}
use Rattle.reception.specs.Data.{data_leaves, is_too_long, is_past_size, is_full, segment_checks, data_checks, room_outcome, data_outcome}
use Rattle.reception.proofs.Sound.{none-split}

-- no check of the data event is met
pub record Checked (rec : Reception) (xs : List ℕ) (offset size : ℕ) : Type 0 where
  pub passed : Passed xs rec
  pub some : size ≡ 0 → ⊥
  pub short : is_too_long offset size ≡ false
  pub small : offset + size ≤ limit_of rec.width
  pub within : is_past_size rec (offset + size) ≡ false

pub checked : (rec : Reception) (xs : List ℕ) (offset size : ℕ) → NoneOf (data_checks rec xs offset size) → Checked rec xs offset size
checked rec xs offset size n =
    let w = none-split (record_checks rec xs) (segment_checks rec offset size) n in
    record { passed = w.0; some = eqb-false _ _ w.1.0; short = w.1.1.0; small = ltb-false _ _ w.1.1.1.0; within = w.1.1.1.1.0 }

-- and there is room
pub record Taken (rec : Reception) (xs : List ℕ) (offset size : ℕ) : Type 0 where
  pub checks : Checked rec xs offset size
  pub free : is_full (capacity xs) (data_leaves rec xs offset size) ≡ false
  pub room : length (data_leaves rec xs offset size) ≤ capacity xs

has_room : (t m : Bool) → eqb (cond t (refusing refusal.StoreFull) (cond m (accepted (0 ∷ [])) (accepted (1 ∷ [])))).number 0 ≡ true → t ≡ false
has_room true m e = absurd (true≢false (sym e))
has_room false m e = refl

-- a list that check 1 passes has room
pub not_full : (room : ℕ) (rs : List Range) → is_full room rs ≡ false → length rs ≤ room
not_full room rs h = go (ltb room (length rs)) refl
  where
    go : (t : Bool) → ltb room (length rs) ≡ t → length rs ≤ room
    go true e = absurd (true≢false (rw e at h))
    go false e = ltb-false room (length rs) e

pub taken : (rec : Reception) (xs : List ℕ) (offset size : ℕ) → eqb (data_outcome rec xs offset size).number 0 ≡ true → Taken rec xs offset size
taken rec xs offset size e =
    let w = first-accepted (data_checks rec xs offset size) (room_outcome rec xs offset size) e in
    let f = has_room (is_full (capacity xs) (data_leaves rec xs offset size)) rec.missing w.1 in
    record { checks = checked rec xs offset size w.0; free = f; room = not_full (capacity xs) (data_leaves rec xs offset size) f }
