-- What holds of every reception that comes from a fresh one with room for N: the record is sound, so every event passes checks 10, 8
-- and 12; and an accepted event leaves it so.
use mathlib.Core.Path.{◌≡◌, refl, sym, ap, ◌∙◌}
use mathlib.Core.Bool.{Bool, true, false, ◌&&◌, not, true≢false}
use mathlib.Core.List.{List, [], ◌∷◌}
use Prim.Native.Nat.{ℕ, suc, ◌*◌, ◌≤◌, ◌<◌, max}
use native.Mathlib.Omega.{arith}
use native.Mathlib.Decide.{dec_lt}
use lib.ListN.{length, take}
use borrow.Author.Tests.{le-ltb, eq-eqb}
use Rattle.ranges.specs.Range.{Range, Above, Coalesced, last_end}
use Rattle.ranges.specs.Store.{counted, flat, limit_of, any_above, is_bad_store, stored, most_pairs}
use Rattle.ranges.specs.declared.Width.{Width}
use Rattle.ranges.proofs.Stored.{counted-stored, take-stored, length-stored}
use Rattle.ranges.proofs.Good.{good-store}
use Rattle.ranges.proofs.Without.{part-one, part_none}
use Rattle.reception.specs.Record.{is_bad_record, is_waiting, is_wrong_size, waiting_ranges, moved, ended, Passed}
use Rattle.reception.specs.Data.{data_ranges}
use Rattle.reception.specs.History.{State, ranges_of, fresh}
use Rattle.ranges.proofs.Last.{ends_le, last-tail}
use Rattle.reception.proofs.Keeping.{kept-coalesced, kept-last}
use Rattle.reception.proofs.Waits.{of_waiting}
use Rattle.reception.proofs.Sound.{passed, ten_wait}

pub record Standing (s : State) (N : ℕ) : Type 0 where
  pub size : length s.list ≡ 2 * N
  pub few : N ≤ most_pairs
  pub room : s.rec.count ≤ N
  pub held : take (2 * s.rec.count) s.list ≡ flat (ranges_of s)
  pub whole : Coalesced (ranges_of s)
  pub last : last_end (ranges_of s) ≤ s.rec.progress
  pub small : s.rec.progress ≤ limit_of s.rec.width
  pub waits : s.rec.missing ≡ true → ranges_of s ≡ waiting_ranges s.rec.progress
  pub told : s.rec.sized ≡ true → s.rec.progress ≡ s.rec.size

-- the numbers of a coalesced list are at most its last end
none_above : (d top : ℕ) (rs : List Range) → Above d rs → last_end rs ≤ top → any_above top (flat rs) ≡ false
none_above d top [] s h = refl
none_above d top (r ∷ rs) s h =
    let k = ends_le d r rs s in
    let l = last-tail d r rs s in
    rw (le-ltb top r.start (omega arith), le-ltb top r.end (omega arith)) (none_above (suc r.end) top rs s.2 (omega arith))

pub standing-passed : (s : State) (N : ℕ) → Standing s N → Passed s.list s.rec
standing-passed s N h = passed s.list s.rec bad h.whole h.last
  where
    store : is_bad_store s.list s.rec.count (limit_of s.rec.width) ≡ false
    store =
        let z = h.size in
        let f = h.few in
        let r = h.room in
        let l = h.last in
        let p = h.small in
        good-store s.list s.rec.count (limit_of s.rec.width)
        (record {
          room = omega arith;
          small = omega arith;
          even = omega arith;
          below = rw h.held (none_above 0 (limit_of s.rec.width) (ranges_of s) h.whole (omega arith));
        })

    waiting : (t : Bool) → s.rec.missing ≡ t → (s.rec.missing && not (is_waiting s.rec.progress (ranges_of s))) ≡ false
    waiting true e = rw (e, ap (is_waiting s.rec.progress) (h.waits e) ∙ of_waiting s.rec.progress)
    waiting false e = rw e

    sized : (t : Bool) → s.rec.sized ≡ t → is_wrong_size s.rec ≡ false
    sized true e = rw (e, eq-eqb s.rec.progress s.rec.size (h.told e))
    sized false e = rw e

    bad : is_bad_record s.list s.rec ≡ false
    bad = ten_wait s.list s.rec store h.small ∙ rw (waiting s.rec.missing refl, sized s.rec.sized refl)

-- the list of a waiting record is coalesced and ends at progress
pub waiting_whole : (p : ℕ) → Coalesced (waiting_ranges p)
waiting_whole p = go (dec_lt 0 p)
  where
    go : Dec (0 < p) → Coalesced (waiting_ranges p)
    go (yes h) = rw (part-one 0 p h) (omega arith, h, tt)
    go (no h) = rw (part_none 0 p (omega arith)) tt

pub waiting_last : (p : ℕ) → last_end (waiting_ranges p) ≤ p
waiting_last p = go (dec_lt 0 p)
  where
    go : Dec (0 < p) → last_end (waiting_ranges p) ≤ p
    go (yes h) = rw (part-one 0 p h) (omega arith)
    go (no h) = rw (part_none 0 p (omega arith)) (omega arith)

-- what an accepted data event leaves is coalesced and ends at the new progress or before
pub after-whole : (m : Bool) (p a e : ℕ) (rs : List Range) → a < e → Coalesced rs → last_end rs ≤ p → Coalesced (data_ranges m p a e rs)
after-whole true p a e rs lt s l = waiting_whole (max p e)
after-whole false p a e rs lt s l = kept-coalesced p a e rs lt s l

pub after_last : (m : Bool) (p a e : ℕ) (rs : List Range) → a < e → Coalesced rs → last_end rs ≤ p → last_end (data_ranges m p a e rs) ≤ max p e
after_last true p a e rs lt s l = waiting_last (max p e)
after_last false p a e rs lt s l = kept-last p a e rs lt s l

-- a list of ranges stored where another stood
pub standing-stored : (s : State) (N : ℕ) → Standing s N → (rs : List Range) (p : ℕ) → length rs ≤ N → Coalesced rs → last_end rs ≤ p → p ≤ limit_of s.rec.width
    → (s.rec.missing ≡ true → rs ≡ waiting_ranges p) → (s.rec.sized ≡ true → p ≡ s.rec.size)
    → Standing (record { rec = moved s.rec p (length rs); list = stored rs s.rec.count s.list }) N
standing-stored s N h rs p k c l b w d =
    let z = h.size in
    let r = h.room in
    let e : counted (stored rs s.rec.count s.list) (length rs) ≡ rs = counted-stored rs s.rec.count s.list in
    record {
      size = length-stored rs s.rec.count s.list (omega arith) (omega arith) ∙ z;
      few = h.few;
      room = k;
      held = take-stored rs s.rec.count s.list ∙ ap flat (sym e);
      whole = rw e c;
      last = rw e l;
      small = b;
      waits = λ q. e ∙ w q;
      told = d;
    }

-- the same with the size told
pub standing-ended : (s : State) (N : ℕ) → Standing s N → (rs : List Range) (z : ℕ) → length rs ≤ N → Coalesced rs → last_end rs ≤ z → z ≤ limit_of s.rec.width
    → (s.rec.missing ≡ true → rs ≡ waiting_ranges z)
    → Standing (record { rec = ended s.rec z (length rs); list = stored rs s.rec.count s.list }) N
standing-ended s N h rs z k c l b w =
    let f = h.size in
    let r = h.room in
    let e : counted (stored rs s.rec.count s.list) (length rs) ≡ rs = counted-stored rs s.rec.count s.list in
    record {
      size = length-stored rs s.rec.count s.list (omega arith) (omega arith) ∙ f;
      few = h.few;
      room = k;
      held = take-stored rs s.rec.count s.list ∙ ap flat (sym e);
      whole = rw e c;
      last = rw e l;
      small = b;
      waits = λ q. e ∙ w q;
      told = λ q. refl;
    }

-- a fresh reception
pub standing-fresh : (w : Width) (xs : List ℕ) (N : ℕ) → length xs ≡ 2 * N → N ≤ most_pairs → Standing (fresh w xs) N
standing-fresh w xs N z f =
    record { size = z; few = f; room = omega arith; held = refl; whole = tt; last = omega arith; small = omega arith; waits = λ q. refl; told = λ q. absurd (true≢false (sym q)) }
