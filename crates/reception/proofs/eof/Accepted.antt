-- What an accepted EOF event says: no check was met, and there was room.
use mathlib.Core.Path.{◌≡◌, refl, sym}
use mathlib.Core.Bool.{Bool, true, false, cond, true≢false}
use mathlib.Core.List.{List, []}
use Prim.Native.Nat.{ℕ, ◌≤◌}
use lib.ListN.{length}
use lib.Dec.{ltb, eqb}
use borrow.Author.Tests.{eqb-true, ltb-false, not-false}
use Rattle.ranges.specs.Store.{capacity, limit_of}
use Rattle.ranges.proofs.Test.{or_false}
use Rattle.outcomes.specs.Outcome.{accepted}
use Rattle.outcomes.specs.Checks.{NoneOf}
use Rattle.outcomes.specs.Refusal.{refusing}
use Rattle.outcomes.specs.declared.Refusal.TheVariants as refusal
use Rattle.outcomes.proofs.FirstOf.{first-accepted}
use Rattle.reception.specs.Record.{record_checks, Passed}
use Rattle.reception.specs.declared.Reception.{Reception}
use Rattle.reception.specs.Data.{is_full}
use Rattle.reception.specs.Eof.{eof_leaves, size_checks, eof_checks, tail_outcome, eof_outcome}
use Rattle.reception.proofs.Sound.{none-split}
use Rattle.reception.proofs.data.Accepted.{not_full}

-- no check of the EOF event is met
pub record EofChecked (rec : Reception) (xs : List ℕ) (z : ℕ) : Type 0 where
  pub passed : Passed xs rec
  pub small : z ≤ limit_of rec.width
  pub above : rec.progress ≤ z
  pub same : rec.sized ≡ true → z ≡ rec.size

pub eof_checked : (rec : Reception) (xs : List ℕ) (z : ℕ) → NoneOf (eof_checks rec xs z) → EofChecked rec xs z
eof_checked rec xs z n =
    let w = none-split (record_checks rec xs) (size_checks rec z) n in
    let o = or_false (ltb z rec.progress) _ w.1.1.0 in
    record {
      passed = w.0;
      small = ltb-false _ _ w.1.0;
      above = ltb-false _ _ o.0;
      same = λ e. eqb-true _ _ (not-false (eqb z rec.size) (rw e at o.1));
    }

-- and there is room
pub record EofTaken (rec : Reception) (xs : List ℕ) (z : ℕ) : Type 0 where
  pub checks : EofChecked rec xs z
  pub free : is_full (capacity xs) (eof_leaves rec xs z) ≡ false
  pub room : length (eof_leaves rec xs z) ≤ capacity xs
  pub above : rec.progress ≤ z

has_room : (t : Bool) → eqb (cond t (refusing refusal.StoreFull) (accepted [])).number 0 ≡ true → t ≡ false
has_room true e = absurd (true≢false (sym e))
has_room false e = refl

pub eof_taken : (rec : Reception) (xs : List ℕ) (z : ℕ) → eqb (eof_outcome rec xs z).number 0 ≡ true → EofTaken rec xs z
eof_taken rec xs z e =
    let w = first-accepted (eof_checks rec xs z) (tail_outcome rec xs z) e in
    let f = has_room (is_full (capacity xs) (eof_leaves rec xs z)) w.1 in
    let c = eof_checked rec xs z w.0 in
    record { checks = c; free = f; room = not_full (capacity xs) (eof_leaves rec xs z) f; above = c.above }
