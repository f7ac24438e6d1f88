-- One call of the sequence (document 01, "The sequence").
use Rattle.std.specs.Prelude.{ℕ, ◌+◌, ◌*◌, ◌-◌, min, ◌≡◌, Bool, false, ◌||◌, List, [], ◌∷◌, ◌++◌, length, take, drop, ltb, Result}
use Rattle.ranges.specs.Store.{any_above}
use Rattle.outcomes.specs.Outcome.{Outcome, accepted, lent}
use Rattle.outcomes.specs.Answered.{answered}
use Rattle.outcomes.specs.Checks.{Check, first_of}
use Rattle.outcomes.specs.declared.Refusal.TheVariants as refusal
use Rattle.outcomes.specs.declared.Refusal.{Refusal}
use Rattle.octets.specs.Flag.{largest_of}
use Rattle.nak.specs.declared.Form.{Form}
use Rattle.nak.specs.declared.Identity.{Identity}
use Rattle.nak.specs.Header.{is_reserved_set}
use Rattle.nak.specs.Pdu.{per_pdu, is_too_small}
use Rattle.nak.specs.Writer.{is_bad_identity, largest_pdu}
use Rattle.reception.specs.declared.Reception.{Reception}
use Rattle.reception.specs.Record.{record_checks}
use Rattle.sequence.specs.declared.Sent.{Sent}
use Rattle.sequence.specs.declared.Order.{Order}
use Rattle.sequence.specs.Entries.{Asking, asking_for, rounded_up, naks, octets_of}

-- The number of PDUs, the octets written and the new cursor.
abbrev pub sent_values : Sent → List ℕ
sent_values s = s.pdus ∷ s.octets ∷ s.cursor ∷ []

-- The number and the values of the answer.
abbrev pub sequence_case : Result Sent Refusal → Outcome
sequence_case = answered sent_values

-- What a call is asked: identity d, form g, the largest PDU p, a cursor j and a PDU budget b.
abbrev pub order : Identity → Form → ℕ → ℕ → ℕ → Order
order d g p j b = record { identity = d; form = g; largest = p; cursor = j; budget = b }

-- A call writes at most 16 PDUs.
abbrev pub largest_budget : ℕ
largest_budget = 16

-- 14: the largest PDU above 4,096, or below room for one request.
unfoldable pub is_bad_size : Order → Bool
is_bad_size o = ltb largest_pdu o.largest || is_too_small o.form o.identity o.largest

-- 7: progress or a number of the list too large for the form.
unfoldable pub is_too_large : Reception → List ℕ → Form → Bool
is_too_large rec xs g = ltb (largest_of g.flag) rec.progress || any_above (largest_of g.flag) (take (2 * rec.count) xs)

-- An order that 13, 15, 14 and 7 pass for this record and list.
pub record Allowed (rec : Reception) (xs : List ℕ) (o : Order) : Type 0 where
  pub identity : is_bad_identity o.identity ≡ false
  pub reserved : is_reserved_set o.form.edition o.form.flag ≡ false
  pub size : is_bad_size o ≡ false
  pub numbers : is_too_large rec xs o.form ≡ false

-- What the PDUs of this record, list and order share.
abbrev pub asked : Reception → List ℕ → Order → Asking
asked rec xs o = asking_for rec xs o.form o.identity (per_pdu o.form o.identity o.largest)

-- The number of PDUs: the smaller of g and (E − j)/k rounded up.
abbrev pub pdu_count : Asking → Order → ℕ
pdu_count a o = min o.budget (rounded_up (length a.entries - o.cursor) a.each)

-- The octets written: these PDUs back to back.
abbrev pub sent : Asking → Order → List ℕ
sent a o = octets_of (naks a o.cursor (pdu_count a o))

-- The new cursor: the smaller of E and j + g × k.
abbrev pub new_cursor : Asking → Order → ℕ
new_cursor a o = min (length a.entries) (o.cursor + o.budget * a.each)

-- What is reported: the number of PDUs, the octets written and the new cursor.
abbrev pub reported : Asking → Order → Outcome
reported a o = accepted (pdu_count a o ∷ length (sent a o) ∷ new_cursor a o ∷ [])

-- Checks of the order itself: 13, 15 (document 02, C-20), 14, 7, 11, 20, 6 (buffer shorter than g × P, which is the number needed).
abbrev pub order_checks : Reception → List ℕ → Order → ℕ → List Check
order_checks rec xs o given =
    (is_bad_identity o.identity, refusal.BadIdentity)
    ∷ (is_reserved_set o.form.edition o.form.flag, refusal.BadHeader)
    ∷ (is_bad_size o, refusal.PduSize)
    ∷ (is_too_large rec xs o.form, refusal.LargeSegmentForNormalFileSize)
    ∷ (ltb (length (asked rec xs o).entries) o.cursor, refusal.BadCursor)
    ∷ (ltb largest_budget o.budget, refusal.BudgetTooLarge)
    ∷ (ltb given (o.budget * o.largest), refusal.BufferSizeMissmatch (o.budget * o.largest) given)
    ∷ []

-- Checks: 10, 8, 12, 13, 15, 14, 7, 11, 20, 6.
abbrev pub sequence_checks : Reception → List ℕ → Order → ℕ → List Check
sequence_checks rec xs o given = record_checks rec xs ++ order_checks rec xs o given

abbrev pub sequence_outcome : Reception → List ℕ → Order → ℕ → Outcome
sequence_outcome rec xs o given = first_of (sequence_checks rec xs o given) (reported (asked rec xs o) o)

-- The buffer afterwards: the PDUs, and behind them what was there.
abbrev pub sequence_buffer : Reception → List ℕ → Order → List ℕ → List ℕ
sequence_buffer rec xs o buf =
    lent (sequence_outcome rec xs o (length buf)) (sent (asked rec xs o) o ++ drop (length (sent (asked rec xs o) o)) buf) buf
