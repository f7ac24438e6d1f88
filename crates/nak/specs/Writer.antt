-- Writing one PDU (document 01, "Writing one PDU").
use Rattle.std.specs.Prelude.{ℕ, ◌%◌, Bool, ◌||◌, not, List, [], ◌∷◌, ◌++◌, eqb, ltb, length, Result}
use Rattle.ranges.specs.Store.{flat, any_above, most_numbers}
use Rattle.outcomes.specs.Outcome.{Outcome, accepted, lent}
use Rattle.outcomes.specs.Answered.{answered, itself}
use Rattle.outcomes.specs.Checks.{Check, first_of}
use Rattle.outcomes.specs.declared.Refusal.TheVariants as refusal
use Rattle.outcomes.specs.declared.Refusal.{Refusal}
use Rattle.octets.specs.Octets.{fits}
use Rattle.octets.specs.Flag.{largest_of}
use Rattle.nak.specs.declared.Identity.{Identity}
use Rattle.nak.specs.Header.{is_reserved_set}
use Rattle.nak.specs.Pdu.{Nak, pdu}
use Rattle.nak.specs.Request.{requests_checks}

-- A PDU has at most 4,096 octets.
abbrev pub largest_pdu : ℕ
largest_pdu = 4096

-- 10: odd flat length, more than 4,096 pairs.
unfoldable pub is_bad_list : List ℕ → Bool
is_bad_list xs = eqb (length xs % 2) 1 || ltb most_numbers (length xs)

-- An identifier length outside 1 to 8.
abbrev pub is_bad_length : ℕ → Bool
is_bad_length l = eqb l 0 || ltb 8 l

-- 13: an identifier length outside 1 to 8, or a number that does not fit it.
unfoldable pub is_bad_identity : Identity → Bool
is_bad_identity d =
    is_bad_length d.entity_length
    || (is_bad_length d.number_length
    || (not (fits d.entity_length d.source) || (not (fits d.number_length d.number) || not (fits d.entity_length d.destination))))

-- The numbers of a NAK: those of its scope, and of its requests.
abbrev pub numbers_of : Nak → List ℕ
numbers_of n = n.scope.start ∷ n.scope.end ∷ flat n.requests

-- What a NAK may say: 13, 15 (document 02, C-20), 18, each request in order, 7 for scope or request, 14 (total above 4,096).
abbrev pub nak_checks : Nak → List Check
nak_checks n =
    (is_bad_identity n.identity, refusal.BadIdentity)
    ∷ (is_reserved_set n.form.edition n.form.flag, refusal.BadHeader)
    ∷ (ltb n.scope.end n.scope.start, refusal.ScopeReversed)
    ∷ requests_checks n.requests
    ++ ((any_above (largest_of n.form.flag) (numbers_of n), refusal.LargeSegmentForNormalFileSize) ∷ (ltb largest_pdu (length (pdu n)), refusal.PduSize) ∷ [])

unfoldable pub nak_outcome : Nak → Outcome
nak_outcome n = first_of (nak_checks n) (accepted [])

-- Writing: 10 for the flat list xs of requests, what a NAK may say, 6 (buffer must be exactly the length).
abbrev pub write_checks : List ℕ → Nak → ℕ → List Check
write_checks xs n given =
    (is_bad_list xs, refusal.BadStore)
    ∷ nak_checks n
    ++ ((not (eqb given (length (pdu n))), refusal.BufferSizeMissmatch (length (pdu n)) given) ∷ [])

-- Success answers the length.
unfoldable pub write_outcome : List ℕ → Nak → ℕ → Outcome
write_outcome xs n given = first_of (write_checks xs n given) (accepted (length (pdu n) ∷ []))

-- The lent buffer: the PDU where it is written, and unchanged where it is refused.
abbrev pub written : List ℕ → Nak → List ℕ → List ℕ
written xs n buf = lent (write_outcome xs n (length buf)) (pdu n) buf

-- The number and values of each case.
abbrev pub write_case : Result ℕ Refusal → Outcome
write_case = answered itself
