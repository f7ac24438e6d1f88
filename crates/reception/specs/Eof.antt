-- The EOF event with the file size z (document 02, C-14).
use Rattle.std.specs.Prelude.{ℕ, Bool, true, false, ◌&&◌, ◌||◌, not, cond, List, [], ◌∷◌, ◌++◌, length, ltb, eqb, Result, ⊤}
use Rattle.ranges.specs.Range.{Range, range}
use Rattle.ranges.specs.Store.{counted, capacity, limit_of, stored}
use Rattle.ranges.specs.Insert.{join}
use Rattle.outcomes.specs.Outcome.{Outcome, accepted, lent}
use Rattle.outcomes.specs.Answered.{answered, nothing}
use Rattle.outcomes.specs.Refusal.{refusing}
use Rattle.outcomes.specs.Checks.{Check, first_of}
use Rattle.outcomes.specs.declared.Refusal.TheVariants as refusal
use Rattle.outcomes.specs.declared.Refusal.{Refusal}
use Rattle.reception.specs.declared.Reception.{Reception}
use Rattle.reception.specs.Record.{waiting_ranges, record_checks, ended}
use Rattle.reception.specs.Data.{is_full}

-- The number and the values of each case of the answer.
abbrev pub eof_case : Result ⊤ Refusal → Outcome
eof_case = answered nothing

-- The ranges that the event leaves if it is accepted. Waiting: the list becomes (0, z), empty at z = 0. Known: progress p up to z becomes
-- missing, joined to the last range if they touch; where z is p, nothing does.
abbrev pub eof_ranges : Bool → ℕ → ℕ → List Range → List Range
eof_ranges true p z rs = waiting_ranges z
eof_ranges false p z rs = join (range p z) rs

abbrev pub eof_leaves : Reception → List ℕ → ℕ → List Range
eof_leaves rec xs z = eof_ranges rec.missing rec.progress z (counted xs rec.count)

-- 22: z below progress, or the size known and z another.
abbrev pub is_other_size : Reception → ℕ → Bool
is_other_size rec z = ltb z rec.progress || (rec.sized && not (eqb z rec.size))

-- Checks of the size itself: 4 (z above the narrow limit), 22.
abbrev pub size_checks : Reception → ℕ → List Check
size_checks rec z =
    (ltb (limit_of rec.width) z, refusal.LargeFileSegmentNotSupported)
    ∷ (is_other_size rec z, refusal.FileSizeError)
    ∷ []

-- Checks: 10, 8, 12, 4, 22.
abbrev pub eof_checks : Reception → List ℕ → ℕ → List Check
eof_checks rec xs z = record_checks rec xs ++ size_checks rec z

-- Behind them: 1, on the ranges that it would leave.
abbrev pub tail_outcome : Reception → List ℕ → ℕ → Outcome
tail_outcome rec xs z = cond (is_full (capacity xs) (eof_leaves rec xs z)) (refusing refusal.StoreFull) (accepted [])

abbrev pub eof_outcome : Reception → List ℕ → ℕ → Outcome
eof_outcome rec xs z = first_of (eof_checks rec xs z) (tail_outcome rec xs z)

-- The record afterwards: the size is known, and progress is the size.
abbrev pub eof_record : Reception → List ℕ → ℕ → Reception
eof_record rec xs z = lent (eof_outcome rec xs z) (ended rec z (length (eof_leaves rec xs z))) rec

-- The list afterwards.
abbrev pub eof_list : Reception → List ℕ → ℕ → List ℕ
eof_list rec xs z = lent (eof_outcome rec xs z) (stored (eof_leaves rec xs z) rec.count xs) xs
