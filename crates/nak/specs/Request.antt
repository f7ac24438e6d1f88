-- What the requests of a NAK may be (document 01, "each request in order"; the request for metadata at any place: document 02, C-12).
use Rattle.std.specs.Prelude.{ℕ, zero, ◌+◌, ◌<◌, ◌≡◌, Bool, true, ◌&&◌, not, cond, ◌⊎◌, List, [], ◌∷◌, ◌++◌, eqb, ltb}
use Rattle.ranges.specs.Range.{Range}
use Rattle.outcomes.specs.Checks.{Check}
use Rattle.outcomes.specs.declared.Refusal.TheVariants as refusal

-- A request (0, 0) asks for metadata.
abbrev pub is_metadata : Range → Bool
is_metadata r = eqb r.start 0 && eqb r.end 0

-- One request: 3, or 2 unless it is the first (0, 0) of the list; `none` says that there was none yet.
abbrev pub request_checks : Bool → Range → List Check
request_checks none r =
    (ltb r.end r.start, refusal.StartLargerThanEnd r.start r.end)
    ∷ (eqb r.start r.end && not (none && is_metadata r), refusal.EmptySegment)
    ∷ []

-- Each request in order; a request (0, 0) may stand anywhere, once.
abbrev pub checks_from : Bool → List Range → List Check
checks_from none [] = []
checks_from none (r ∷ rs) = request_checks none r ++ checks_from (none && not (is_metadata r)) rs

-- A list of requests, from the first on.
abbrev pub requests_checks : List Range → List Check
requests_checks rs = checks_from true rs

-- How many of the requests ask for metadata.
abbrev pub metadata_asked : List Range → ℕ
metadata_asked [] = zero
metadata_asked (r ∷ rs) = cond (is_metadata r) 1 0 + metadata_asked rs

-- Each request has an offset or asks for metadata.
abbrev pub EachAsks : List Range → Type 0
EachAsks [] = Unit
EachAsks (r ∷ rs) = ((r.start < r.end) ⊎ (is_metadata r ≡ true)) × EachAsks rs
