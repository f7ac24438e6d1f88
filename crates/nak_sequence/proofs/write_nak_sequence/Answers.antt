-- `write_nak_sequence` meets its contract: a refusal of its checks leaves the buffer as it was, else the buffer holds the PDUs.
use native.Mathlib.Omega.{arith}
use native.Mathlib.Nat.{mul-le-mul_right}
use mathlib.Core.Path.{◌≡◌, refl, sym, ap, ap₂, ◌∙◌}
use mathlib.Core.List.{List, [], ◌∷◌}
use Prim.Native.Nat.{ℕ, ◌+◌, ◌*◌, ◌-◌, ◌≤◌, min}
use lib.ListN.{length}
use Rattle.outcomes.specs.Outcome.{accepted}
use Rattle.outcomes.specs.Checks.{first_of, NoneOf}
use Rattle.outcomes.proofs.Answered.{handed_on}
use Rattle.outcomes.proofs.FirstOf.{first-refused, none_of}
use Rattle.octets.specs.Octets.{with_octets}
use Rattle.nak.specs.Inner.{GoodLengths}
use Rattle.nak.specs.Pdu.{per_pdu}
use Rattle.nak.specs.Writer.{largest_pdu}
use Rattle.nak.proofs.Checks.{good-lengths}
use Rattle.nak.proofs.Room.{per_high}
use Rattle.reception.specs.declared.Reception.{Reception}
use Rattle.reception.proofs.Sound.{sound}
use Rattle.sequence.specs.Entries.{asking_for, rounded_up, naks, octets_of}
use Rattle.sequence.specs.Sequence.{largest_budget, asked, pdu_count, sent, new_cursor, sent_values, sequence_checks}
use Rattle.sequence.specs.declared.Order.{Order}
use Rattle.sequence.proofs.Sizes.{pdu-short, small_size, some-each, each-low}
use Rattle.sequence.proofs.Accepted.{Checked}
use Rattle.nak_sequence.specs.Inner.{entry_count, Listed}
use Rattle.nak_sequence.proofs.Listed.{length-entries, count_le}
use Rattle.nak_sequence.proofs.Answers.{checked, done, refused_by, sent-by}
use Rattle.nak_sequence.proofs.Chain.{octets-short, at_front}
use Rattle.nak_sequence.proofs.write_nak_sequence.Goals as goal

-- What is known where the checks are passed: `e` is E, `k` the requests of a PDU, `n` the number of PDUs.
module _ (rec : Reception) (xs : List ℕ) (o : Order) (buf : List ℕ) (told : accepted [] ≡ first_of (sequence_checks rec xs o (length buf)) (accepted []))
    (e k n : ℕ) (e-is : e ≡ entry_count rec) (k-is : k ≡ per_pdu o.form o.identity o.largest) where
  checks : Checked rec xs o (length buf)
  checks = checked rec xs o (length buf) (none_of (sequence_checks rec xs o (length buf)) told)

  lengths : GoodLengths o.identity
  lengths = good-lengths o.identity checks.allowed.identity

  listed : Listed rec xs
  listed = let s = (sound xs rec checks.passed).store in (s.room, omega (arith, s.room, s.small))

  entries : e ≡ length (asked rec xs o).entries
  entries = e-is ∙ sym (length-entries rec xs listed.0)

  within : o.cursor ≤ e
  within = omega (arith, entries, checks.cursor)

  few : e ≤ largest_pdu + 1
  few = omega (arith, e-is, count_le rec, listed.1)

  low : 1 ≤ k
  low = omega (arith, k-is, each-low o checks.allowed.size)

  high : k ≤ largest_pdu
  high = omega (arith, k-is, per_high o.form o.identity o.largest, small_size o checks.allowed.size)

  steps : o.budget * k ≤ largest_budget * largest_pdu
  steps = let m = mul-le-mul_right {m = o.budget} {n = largest_budget} k checks.budget in omega (arith, m, high)

  module _ (n-is : n ≡ min o.budget (rounded_up (e - o.cursor) k)) where
    pdus : n ≡ pdu_count (asked rec xs o) o
    pdus = n-is ∙ ap₂ (λ (e k : ℕ). min o.budget (rounded_up (e - o.cursor) k)) entries k-is

    room : length (octets_of (naks (asking_for rec xs o.form o.identity k) o.cursor n)) ≤ length buf
    room =
        let a = asking_for rec xs o.form o.identity k in
        let y = octets-short a o.largest (λ f. pdu-short a o.largest f k-is (some-each o checks.allowed.size)) o.cursor n in
        let m = mul-le-mul_right {m = n} {n = o.budget} o.largest (omega (arith, pdus)) in
        omega (arith, y, m, checks.room)

    octets : octets_of (naks (asking_for rec xs o.form o.identity k) o.cursor n) ≡ sent (asked rec xs o) o
    octets = ap₂ (λ (k m : ℕ). octets_of (naks (asking_for rec xs o.form o.identity k) o.cursor m)) k-is pdus

same-values : (a b c u v w : ℕ) → a ≡ u → b ≡ v → c ≡ w → accepted (a ∷ b ∷ c ∷ []) ≡ accepted (u ∷ v ∷ w ∷ [])
same-values a b c u v w e f g = rw (e, f, g)

pub returns-in_err-sequence_checks : goal.returns-in_err-sequence_checks
returns-in_err-sequence_checks c =
    let a = c.args in
    let xs = a.list.now in
    let buf = a.buf.now in
    let r = c.in_err-sequence_checks.field-0.0 in
    let w = refused_by a.rec xs a.order buf r
    (first-refused (sequence_checks a.rec xs a.order (length buf)) r (done a.rec xs a.order buf) c.in_err-sequence_checks.ensures) in
    record { result_value = handed_on sent_values c.from_residual.result r c.from_residual.ensures.1 ∙ w.0; buf_after = w.1 }

pub per_pdu-k-requires : goal.per_pdu-k-requires
per_pdu-k-requires c =
    let a = c.args in
    let k = checked a.rec a.list.now a.order (length a.buf.now) (none_of (sequence_checks a.rec a.list.now a.order (length a.buf.now)) c.in_ok-sequence_checks.ensures) in
    (good-lengths a.order.identity k.allowed.identity, some-each a.order k.allowed.size)

pub entry_count-e-requires : goal.entry_count-e-requires
entry_count-e-requires c =
    let a = c.args in
    (listed a.rec a.list.now a.order a.buf.now c.in_ok-sequence_checks.ensures _ _ 0 refl refl).1

pub overflow_sub-e : goal.overflow_sub-e
overflow_sub-e c =
    let a = c.args in
    omega (arith, within a.rec a.list.now a.order a.buf.now c.in_ok-sequence_checks.ensures _ _ 0 c.entry_count-e.ensures c.per_pdu-k.ensures)

pub overflow_sub-k : goal.overflow_sub-k
overflow_sub-k c =
    let a = c.args in
    omega (arith, low a.rec a.list.now a.order a.buf.now c.in_ok-sequence_checks.ensures _ _ 0 c.entry_count-e.ensures c.per_pdu-k.ensures)

pub overflow_add-e : goal.overflow_add-e
overflow_add-e c =
    let a = c.args in
    let u = few a.rec a.list.now a.order a.buf.now c.in_ok-sequence_checks.ensures _ _ 0 c.entry_count-e.ensures c.per_pdu-k.ensures in
    let v = high a.rec a.list.now a.order a.buf.now c.in_ok-sequence_checks.ensures _ _ 0 c.entry_count-e.ensures c.per_pdu-k.ensures in
    omega (arith, u, v)

pub nonzero_div-e : goal.nonzero_div-e
nonzero_div-e c =
    let a = c.args in
    omega (arith, low a.rec a.list.now a.order a.buf.now c.in_ok-sequence_checks.ensures _ _ 0 c.entry_count-e.ensures c.per_pdu-k.ensures)

pub write_pdus-octets-requires : goal.write_pdus-octets-requires
write_pdus-octets-requires c =
    let a = c.args in
    let t = c.in_ok-sequence_checks.ensures in
    let e = c.entry_count-e.ensures in
    let k = c.per_pdu-k.ensures in
    let n = c.min-pdus.result in
    let r = c.min-pdus.ensures ∙ ap (λ (e : ℕ). min a.order.budget (rounded_up (e - a.order.cursor) c.per_pdu-k.result)) e in
    record {
      good_lengths = (
        lengths a.rec a.list.now a.order a.buf.now t _ _ n e k,
        (
          listed a.rec a.list.now a.order a.buf.now t _ _ n e k,
          (low a.rec a.list.now a.order a.buf.now t _ _ n e k, (high a.rec a.list.now a.order a.buf.now t _ _ n e k, omega (arith, r))),
        ),
      );
      pdus_in_bounds = room a.rec a.list.now a.order a.buf.now t _ _ n e k c.min-pdus.ensures;
    }

pub overflow_mul-order : goal.overflow_mul-order
overflow_mul-order c =
    let a = c.args in
    omega (arith, steps a.rec a.list.now a.order a.buf.now c.in_ok-sequence_checks.ensures _ _ 0 c.entry_count-e.ensures c.per_pdu-k.ensures)

pub overflow_add-order : goal.overflow_add-order
overflow_add-order c =
    let a = c.args in
    let t = c.in_ok-sequence_checks.ensures in
    let u = steps a.rec a.list.now a.order a.buf.now t _ _ 0 c.entry_count-e.ensures c.per_pdu-k.ensures in
    let v = few a.rec a.list.now a.order a.buf.now t _ _ 0 c.entry_count-e.ensures c.per_pdu-k.ensures in
    let w = within a.rec a.list.now a.order a.buf.now t _ _ 0 c.entry_count-e.ensures c.per_pdu-k.ensures in
    omega (arith, u, v, w)

pub returns : goal.returns
returns c =
    let a = c.args in
    let xs = a.list.now in
    let buf = a.buf.now in
    let t = c.in_ok-sequence_checks.ensures in
    let e = c.entry_count-e.ensures in
    let k = c.per_pdu-k.ensures in
    let n = c.min-pdus.result in
    let ps = pdus a.rec xs a.order buf t _ _ n e k c.min-pdus.ensures in
    let os = octets a.rec xs a.order buf t _ _ n e k c.min-pdus.ensures in
    let es = entries a.rec xs a.order buf t _ _ n e k in
    let sent-octets : c.write_pdus-octets.result ≡ length (sent (asked a.rec xs a.order) a.order) = c.write_pdus-octets.ensures.value ∙ ap length os in
    let cursor : c.min.result ≡ new_cursor (asked a.rec xs a.order) a.order = c.min.ensures ∙ ap₂ (λ (e k : ℕ). min e (a.order.cursor + a.order.budget * k)) es k in
    let w = sent-by a.rec xs a.order buf (checks a.rec xs a.order buf t _ _ n e k) in
    record {
      result_value = same-values _ _ _ _ _ _ ps sent-octets cursor ∙ w.0;
      buf_after = c.write_pdus-octets.ensures.buf_after ∙ ap (with_octets buf 0) os ∙ at_front buf (sent (asked a.rec xs a.order) a.order) ∙ w.1;
    }
