-- What an accepted EOF does to a coalesced list that ends at progress or before: offsets from progress up to the size become missing and
-- nothing else changes; the list stays coalesced, ends at the size or before, and grows by at most one range.
use Rattle.std.specs.Prelude.{Some}
use mathlib.Core.Path.{◌≡◌, refl, sym, ap, ◌∙◌}
use mathlib.Core.Bool.{Bool, true, false}
use mathlib.Core.List.{List}
use mathlib.Core.Logic.{◌⊎◌, inl, inr, ⊎_elim, ◌↔◌}
use Prim.Native.Nat.{ℕ, suc, ◌*◌, ◌≤◌}
use native.Mathlib.Omega.{arith}
use lib.ListN.{length}
use Rattle.ranges.specs.Range.{Range, range, In, Covers, Coalesced, last_end}
use Rattle.ranges.specs.Insert.{join}
use Rattle.ranges.proofs.Insert.{join-above, join_covers, join-length, join-none}
use borrow.Author.Tests.{le-ltb}
use Rattle.ranges.specs.Store.{counted, capacity}
use Rattle.ranges.specs.Inner.Cut.{cut_answer, cut_list}
use Rattle.ranges.proofs.Flat.{length-counted}
use Rattle.ranges.proofs.Stored.{stored_same}
use Rattle.reception.specs.Record.{is_waiting}
use Rattle.reception.proofs.Waits.{waiting_of}
use Rattle.reception.specs.Eof.{eof_ranges}
use Rattle.reception.proofs.Ends.{below_last, last-below}
use Rattle.reception.proofs.Standing.{waiting_whole, waiting_last}

pub tail-whole : (m : Bool) (p z : ℕ) (rs : List Range) → Coalesced rs → Coalesced (eof_ranges m p z rs)
tail-whole true p z rs s = waiting_whole z
tail-whole false p z rs s = join-above (range p z) rs s

pub tail_covers : (p z : ℕ) (rs : List Range) → Coalesced rs → (x : ℕ) → Covers x (join (range p z) rs) ↔ (Covers x rs ⊎ In x (range p z))
tail_covers p z rs s x = let i = join_covers x (range p z) rs s in (λ h. ⊎_elim (λ g. inr g) (λ g. inl g) (i.0 h), λ h. i.1 (⊎_elim (λ g. inr g) (λ g. inl g) h))

pub tail-last : (m : Bool) (p z : ℕ) (rs : List Range) → Coalesced rs → last_end rs ≤ p → p ≤ z → last_end (eof_ranges m p z rs) ≤ z
tail-last true p z rs s l h = waiting_last z
tail-last false p z rs s l h =
    last-below 0 z (join (range p z) rs) (join-above (range p z) rs s)
    (λ x k. ⊎_elim (λ g. let b = below_last 0 x rs s g in omega arith) (λ g. omega arith) ((tail_covers p z rs s x).0 k))

pub tail-length : (p z : ℕ) (rs : List Range) → length (join (range p z) rs) ≤ suc (length rs)
tail-length p z rs = join-length (range p z) rs

-- where the size is progress, the list stays as it is
tail_still : (m : Bool) (p : ℕ) (rs : List Range) → (m ≡ true → is_waiting p rs ≡ true) → eof_ranges m p p rs ≡ rs
tail_still true p rs w = sym (waiting_of p rs (w refl))
tail_still false p rs w = join-none p p rs (omega arith)

pub tail_none : (m : Bool) (p z : ℕ) (xs : List ℕ) (n : ℕ) → 2 * n ≤ length xs → p ≡ z → (m ≡ true → is_waiting p (counted xs n) ≡ true)
    → (Some n ≡ cut_answer (capacity xs) (eof_ranges m p z (counted xs n))) × (xs ≡ cut_list (capacity xs) (eof_ranges m p z (counted xs n)) n xs)
tail_none m p z xs n h e w =
    let c = length-counted xs n h in
    let q : eof_ranges m p z (counted xs n) ≡ counted xs n = ap (λ (y : ℕ). eof_ranges m p y (counted xs n)) (sym e) ∙ tail_still m p (counted xs n) w in
    rw (q, le-ltb (capacity xs) (length (counted xs n)) (omega arith)) (ap Some (sym c), sym (stored_same xs n h))
