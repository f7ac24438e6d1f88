-- write_segments_to_bytes: big-endian start, end, F octets each; F is 4 (normal) or 8 (large) (document 01, "Ranges and the
-- store").
use Rattle.std.specs.Prelude.{ℕ, ◌*◌, not, List, [], ◌∷◌, length, take, eqb, Result}
use Rattle.ranges.specs.Store.{any_above}
use Rattle.outcomes.specs.Outcome.{Outcome, accepted, lent}
use Rattle.outcomes.specs.Answered.{answered, itself}
use Rattle.outcomes.specs.Checks.{Check, first_of}
use Rattle.outcomes.specs.declared.Refusal.TheVariants as refusal
use Rattle.outcomes.specs.declared.Refusal.{Refusal}
use Rattle.octets.specs.declared.LargeFileFlag.{LargeFileFlag}
use Rattle.octets.specs.Flag.{field_length, largest_of}
use Rattle.octets.specs.Octets.{fields}
use Rattle.segment_store.specs.declared.Store.{Store}
use Rattle.segment_store.specs.Checks.{is_bad}

-- The number and the values of each case of the answer; an accepted call hands back the number of octets written.
abbrev pub to_bytes_case : Result ℕ Refusal → Outcome
to_bytes_case = answered itself

-- The octets that the counted pairs take: count × 2F.
abbrev pub write_length : Store → LargeFileFlag → ℕ
write_length st flag = st.count * (2 * field_length flag)

-- Checks: 10, 6 (the buffer's length, given, must equal count × 2F), 7.
abbrev pub to_bytes_checks : List ℕ → Store → LargeFileFlag → ℕ → List Check
to_bytes_checks xs st flag given =
    (is_bad xs st, refusal.BadStore)
    ∷ (not (eqb given (write_length st flag)), refusal.BufferSizeMissmatch (write_length st flag) given)
    ∷ (any_above (largest_of flag) (take (2 * st.count) xs), refusal.LargeSegmentForNormalFileSize)
    ∷ []

abbrev pub to_bytes_outcome : List ℕ → Store → LargeFileFlag → List ℕ → Outcome
to_bytes_outcome xs st flag buf = first_of (to_bytes_checks xs st flag (length buf)) (accepted (write_length st flag ∷ []))

-- The buffer afterwards: the fields of the counted numbers in order.
abbrev pub to_bytes_buffer : List ℕ → Store → LargeFileFlag → List ℕ → List ℕ
to_bytes_buffer xs st flag buf = lent (to_bytes_outcome xs st flag buf) (fields (field_length flag) (take (2 * st.count) xs)) buf
