-- The record of a reception: its literals, what makes it sound, and the checks that every event begins with (document 01, "Reception
-- events"; the size: document 02, C-14).
use Rattle.std.specs.Prelude.{ℕ, Bool, true, false, ◌&&◌, ◌||◌, not, List, [], ◌∷◌, ltb, eqb}
use Rattle.ranges.specs.Range.{Range, is_coalesced, last_end}
use Rattle.ranges.specs.Store.{counted, limit_of, is_bad_store}
use Rattle.ranges.specs.Without.{part}
use Rattle.outcomes.specs.Checks.{Check, NoneOf}
use Rattle.outcomes.specs.declared.Refusal.TheVariants as refusal
use Rattle.ranges.specs.declared.Width.{Width}
use Rattle.reception.specs.declared.Reception.{Reception}

-- A fresh record: progress 0, empty list, metadata missing; its size is not known, and the number for it is 0.
abbrev pub fresh_record : Width → Reception
fresh_record w = record { progress = 0; count = 0; width = w; missing = true; sized = false; size = 0 }

-- The record with another progress and count.
abbrev pub moved : Reception → ℕ → ℕ → Reception
moved rec progress count = record { progress = progress; count = count; width = rec.width; missing = rec.missing; sized = rec.sized; size = rec.size }

-- The record with the missing mark cleared.
abbrev pub known : Reception → Reception
known rec = record { progress = rec.progress; count = rec.count; width = rec.width; missing = false; sized = rec.sized; size = rec.size }

-- The record with the size known, which progress is then too, and another count.
abbrev pub ended : Reception → ℕ → ℕ → Reception
ended rec size count = record { progress = size; count = count; width = rec.width; missing = rec.missing; sized = true; size = size }

-- While waiting the list is exactly (0, progress), or empty at progress 0.
abbrev pub waiting_ranges : ℕ → List Range
waiting_ranges progress = part 0 progress

-- The same as a test.
abbrev pub is_waiting : ℕ → List Range → Bool
is_waiting progress [] = eqb progress 0
is_waiting progress (r ∷ []) = ltb 0 progress && (eqb r.start 0 && eqb r.end progress)
is_waiting progress (r ∷ q ∷ rs) = false

-- A record that waits, and its list is not the one stated.
abbrev pub is_wrong_wait : List ℕ → Reception → Bool
is_wrong_wait xs rec = rec.missing && not (is_waiting rec.progress (counted xs rec.count))

-- The size is known and progress is another number (document 02, C-14).
abbrev pub is_wrong_size : Reception → Bool
is_wrong_size rec = rec.sized && not (eqb rec.progress rec.size)

-- 10: a bad store, a progress above the width's limit, a waiting record whose list is not the one stated, or a progress that is not the
-- known size.
unfoldable pub is_bad_record : List ℕ → Reception → Bool
is_bad_record xs rec =
    is_bad_store xs rec.count (limit_of rec.width)
    || (ltb (limit_of rec.width) rec.progress || (is_wrong_wait xs rec || is_wrong_size rec))

-- Checks that every event begins with: 10, 8, 12 (last end above progress).
abbrev pub record_checks : Reception → List ℕ → List Check
record_checks rec xs =
    (is_bad_record xs rec, refusal.BadStore)
    ∷ (not (is_coalesced (counted xs rec.count)), refusal.NotCoalesced)
    ∷ (ltb rec.progress (last_end (counted xs rec.count)), refusal.ScopeBelowList)
    ∷ []

-- The record is sound: the three checks pass.
abbrev pub Passed : List ℕ → Reception → Type 0
Passed xs rec = NoneOf (record_checks rec xs)
