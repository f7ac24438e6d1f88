-- The data event (offset, length) (document 01, "Reception events"; its gap is inserted: document 02, C-19).
use Rattle.std.specs.Prelude.{ℕ, ◌+◌, max, Bool, true, false, ◌&&◌, cond, List, [], ◌∷◌, ◌++◌, length, ltb, eqb, Result}
use Rattle.ranges.specs.Range.{Range, range}
use Rattle.ranges.specs.Store.{counted, capacity, limit_of, stored}
use Rattle.ranges.specs.Without.{without}
use Rattle.ranges.specs.Insert.{join}
use Rattle.outcomes.specs.Outcome.{Outcome, accepted, lent}
use Rattle.outcomes.specs.Answered.{answered}
use Rattle.outcomes.specs.Refusal.{refusing}
use Rattle.outcomes.specs.declared.Refusal.{Refusal}
use Rattle.outcomes.specs.Checks.{Check, first_of}
use Rattle.outcomes.specs.declared.Refusal.TheVariants as refusal
use Rattle.reception.specs.declared.Reception.{Reception}
use Rattle.reception.specs.declared.data.Received.{Received}
use Rattle.reception.specs.declared.data.Received.TheVariants as received
use Rattle.reception.specs.Record.{waiting_ranges, record_checks, moved}

-- The number of what the event does: 0 where the range is noticed, 1 where it is kept.
abbrev pub received_values : Received → List ℕ
received_values received.Noticed = 0 ∷ []
received_values received.Kept = 1 ∷ []

-- The number and the values of the answer.
abbrev pub data_case : Result Received Refusal → Outcome
data_case = answered received_values

-- Known: offsets of (a, e) leave the list, across several ranges if need be. If the offset a is above progress p, offsets from
-- progress up to it become missing: the gap (p, a) is inserted; where a is not above p, that range is empty and adds nothing.
abbrev pub kept_ranges : ℕ → ℕ → ℕ → List Range → List Range
kept_ranges p a e rs = join (range p a) (without a e rs)

-- The ranges that the event leaves if it is accepted. Waiting: the range is noticed and not kept; all below progress is missing.
abbrev pub data_ranges : Bool → ℕ → ℕ → ℕ → List Range → List Range
data_ranges true p a e rs = waiting_ranges (max p e)
data_ranges false p a e rs = kept_ranges p a e rs

-- The ranges that the event (offset, size) leaves if it is accepted.
abbrev pub data_leaves : Reception → List ℕ → ℕ → ℕ → List Range
data_leaves rec xs offset size = data_ranges rec.missing rec.progress offset (offset + size) (counted xs rec.count)

-- 2^64 - 1, the largest number of 64 bits.
abbrev pub largest_number : ℕ
largest_number = 18446744073709551615

-- 9: the end is above 2^64 - 1.
abbrev pub is_too_long : ℕ → ℕ → Bool
is_too_long offset size = ltb largest_number (offset + size)

-- 1: the resulting list would have more ranges than the capacity.
abbrev pub is_full : ℕ → List Range → Bool
is_full room rs = ltb room (length rs)

-- 22: the size is known and the end is past it (document 02, C-14).
abbrev pub is_past_size : Reception → ℕ → Bool
is_past_size rec end = rec.sized && ltb rec.size end

-- Checks of the segment itself: 2 (length 0), 9, 4 (end above the narrow limit), 22.
abbrev pub segment_checks : Reception → ℕ → ℕ → List Check
segment_checks rec offset size =
    (eqb size 0, refusal.EmptySegment)
    ∷ (is_too_long offset size, refusal.RangeTooLong)
    ∷ (ltb (limit_of rec.width) (offset + size), refusal.LargeFileSegmentNotSupported)
    ∷ (is_past_size rec (offset + size), refusal.FileSizeError)
    ∷ []

-- Checks: 10, 8, 12, 2, 9, 4, 22.
abbrev pub data_checks : Reception → List ℕ → ℕ → ℕ → List Check
data_checks rec xs offset size = record_checks rec xs ++ segment_checks rec offset size

-- Behind them: 1. Accepted, it answers 0 while waiting, noticed, and else 1, kept.
abbrev pub room_outcome : Reception → List ℕ → ℕ → ℕ → Outcome
room_outcome rec xs offset size =
    cond (is_full (capacity xs) (data_leaves rec xs offset size)) (refusing refusal.StoreFull)
    (cond rec.missing (accepted (0 ∷ [])) (accepted (1 ∷ [])))

abbrev pub data_outcome : Reception → List ℕ → ℕ → ℕ → Outcome
data_outcome rec xs offset size = first_of (data_checks rec xs offset size) (room_outcome rec xs offset size)

-- The record that an accepted event leaves: progress becomes the larger of itself and the end.
abbrev pub advanced : Reception → List ℕ → ℕ → ℕ → Reception
advanced rec xs offset size = moved rec (max rec.progress (offset + size)) (length (data_leaves rec xs offset size))

-- The record afterwards.
abbrev pub data_record : Reception → List ℕ → ℕ → ℕ → Reception
data_record rec xs offset size = lent (data_outcome rec xs offset size) (advanced rec xs offset size) rec

-- The list afterwards.
abbrev pub data_list : Reception → List ℕ → ℕ → ℕ → List ℕ
data_list rec xs offset size = lent (data_outcome rec xs offset size) (stored (data_leaves rec xs offset size) rec.count xs) xs
