-- A step of a reader over a packet (document 01, "Each later step of the reader gives one request or says it is at the end").
use Rattle.std.specs.Prelude.{ℕ, zero, suc, ◌+◌, ◌*◌, ◌-◌, Bool, cond, List, [], ◌∷◌, ltb, Option, Some, None}
use Rattle.ranges.specs.Range.{Range}
use Rattle.outcomes.specs.Outcome.{Outcome, accepted, lent}
use Rattle.nak.specs.declared.Edition.{Edition}
use Rattle.nak_parsing.specs.Parser.{field_at, field_length_in, requests_end, packet_requests, read_outcome}

-- Any reader with less than one request left is at its end: fewer than 2F octets from its place to the packet's end or its trailer. F
-- and the trailer are those of octet 0's flags; behind the packet's end there are no octets.
unfoldable pub at_end : List ℕ → ℕ → Bool
at_end p at = ltb (requests_end p - at) (2 * field_length_in p)

-- A step gives the request at the place, start and end, or says that it is at the end.
unfoldable pub step_outcome : List ℕ → ℕ → Outcome
step_outcome p at = cond (at_end p at) (accepted []) (accepted (field_at p at (field_length_in p) ∷ field_at p (at + field_length_in p) (field_length_in p) ∷ []))

-- The place after it: behind the request, and at the end as it was.
unfoldable pub place_after : List ℕ → ℕ → ℕ
place_after p at = cond (at_end p at) at (at + 2 * field_length_in p)

-- The values of each case; there is no refusal.
abbrev pub step_case : Option (ℕ × ℕ) → Outcome
step_case (Some (start, end)) = accepted (start ∷ end ∷ [])
step_case None = accepted []

-- What k steps from a place give, one after the other.
abbrev pub steps : List ℕ → ℕ → ℕ → List Outcome
steps p at zero = []
steps p at (suc k) = step_outcome p at ∷ steps p (place_after p at) k

-- Each request as a step gives it.
abbrev pub each_request : List Range → List Outcome
each_request [] = []
each_request (r ∷ rs) = accepted (r.start ∷ r.end ∷ []) ∷ each_request rs

-- The requests that a reader gives from where reading left it: those of an accepted packet, and none of a refused one.
abbrev pub requests_given : Edition → List ℕ → List Range
requests_given e p = lent (read_outcome e p) (packet_requests p) []
