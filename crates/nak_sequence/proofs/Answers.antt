-- What the checks that are passed say, and what each answer of the sequence leaves in the buffer; the tests of 14 and of 7.
use native.Mathlib.Omega.{arith}
use mathlib.Core.Path.{◌≡◌, refl, sym, ap, ◌∙◌}
use mathlib.Core.Bool.{true, false, ◌||◌}
use mathlib.Core.List.{List, ◌++◌}
use Prim.Native.Nat.{ℕ, ◌*◌, ◌≤◌, ◌<◌}
use lib.ListN.{length, take, drop}
use lib.Dec.{ltb}
use borrow.Author.Tests.{ltb-false, lt-ltb, le-ltb}
use Rattle.outcomes.specs.Outcome.{Outcome, lent}
use Rattle.outcomes.specs.Refusal.{refusing}
use Rattle.outcomes.specs.Checks.{NoneOf}
use Rattle.outcomes.specs.declared.Refusal.{Refusal}
use Rattle.outcomes.proofs.Refusals.{lent-refused}
use Rattle.ranges.specs.Range.{last_end}
use Rattle.ranges.specs.Store.{counted, any_above}
use Rattle.ranges.proofs.Last.{above-counted}
use Rattle.nak.specs.declared.Form.{Form}
use Rattle.octets.specs.Flag.{largest_of}
use Rattle.nak.specs.Pdu.{is_too_small}
use Rattle.nak.specs.Writer.{largest_pdu}
use Rattle.reception.specs.Record.{record_checks, Passed}
use Rattle.reception.specs.declared.Reception.{Reception}
use Rattle.reception.proofs.Sound.{sound, none-split}
use Rattle.sequence.specs.Sequence.{is_bad_size, is_too_large, asked, sent, reported, order_checks, sequence_checks, sequence_outcome, sequence_buffer}
use Rattle.sequence.specs.declared.Order.{Order}
use Rattle.sequence.proofs.Accepted.{Checked, seq_sent}

-- what the checks that are not met say in numbers
pub checked : (rec : Reception) (xs : List ℕ) (o : Order) (given : ℕ) → NoneOf (sequence_checks rec xs o given) → Checked rec xs o given
checked rec xs o given n =
    let w = none-split (record_checks rec xs) (order_checks rec xs o given) n in
    let v = w.1 in
    record {
      passed = w.0;
      allowed = record { identity = v.0; reserved = v.1.0; size = v.1.1.0; numbers = v.1.1.1.0 };
      cursor = ltb-false _ _ v.1.1.1.1.0;
      budget = ltb-false _ _ v.1.1.1.1.1.0;
      room = ltb-false _ _ v.1.1.1.1.1.1.0;
    }

module _ (rec : Reception) (xs : List ℕ) (o : Order) (buf : List ℕ) where
  -- what is reported, and the buffer with the octets sent
  abbrev pub done : Outcome
  done = reported (asked rec xs o) o

  abbrev pub new : List ℕ
  new = sent (asked rec xs o) o ++ drop (length (sent (asked rec xs o) o)) buf

  -- what is said of an answer: its outcome, and the buffer that it leaves
  abbrev pub Ends : Outcome → List ℕ → Type 0
  Ends p l = (p ≡ sequence_outcome rec xs o (length buf)) × (l ≡ sequence_buffer rec xs o buf)

  left : (p : Outcome) → p ≡ sequence_outcome rec xs o (length buf) → lent p new buf ≡ sequence_buffer rec xs o buf
  left p e = ap (λ (q : Outcome). lent q new buf) e

  -- a refusal leaves the buffer as it was
  pub refused_by : (r : Refusal) → refusing r ≡ sequence_outcome rec xs o (length buf) → Ends (refusing r) buf
  refused_by r e = (e, sym (lent-refused r new buf) ∙ left (refusing r) e)

  pub sent-by : Checked rec xs o (length buf) → Ends done new
  sent-by k = let e = seq_sent rec xs o (length buf) k in (e, left done e)

-- the tests of 14 and of 7
pub size_of : (o : Order) → (ltb largest_pdu o.largest || is_too_small o.form o.identity o.largest) ≡ is_bad_size o
unfolding is_bad_size
size_of o = refl

module _ (rec : Reception) (xs : List ℕ) (g : Form) where
  pub large_progress : largest_of g.flag < rec.progress → is_too_large rec xs g ≡ true
  unfolding is_too_large
  large_progress h = rw (lt-ltb (largest_of g.flag) rec.progress h)

  -- no number of a sound record's list is above progress
  none-larger : Passed xs rec → rec.progress ≤ largest_of g.flag → any_above (largest_of g.flag) (take (2 * rec.count) xs) ≡ false
  none-larger p h =
      let s = sound xs rec p in
      let e = s.above in
      above-counted (largest_of g.flag) xs rec.count s.store.room s.whole ∙ le-ltb (largest_of g.flag) (last_end (counted xs rec.count)) (omega arith)

  pub large_fine : Passed xs rec → rec.progress ≤ largest_of g.flag → is_too_large rec xs g ≡ false
  unfolding is_too_large
  large_fine p h = rw (le-ltb (largest_of g.flag) rec.progress h, none-larger p h)
