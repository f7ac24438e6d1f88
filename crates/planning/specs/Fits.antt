-- When a plan is accepted, in the words of document 02 (C-23) and on sets of offsets. By `accepted_exactly` the six tests say just that.
use Rattle.std.specs.Prelude.{ℕ, ◌≤◌, ◌<◌, ◌≡◌, false, cond, ◌↔◌, length}
use mathlib.Core.List.{List, Memᴰ}
use Rattle.ranges.specs.Range.{Range, In, Covers, range_at}
use Rattle.ranges.specs.Store.{counted}
use Rattle.nak.specs.declared.Identity.{Identity}
use Rattle.nak.specs.Request.{is_metadata, metadata_asked}
use Rattle.reception.specs.declared.Reception.{Reception}
use Rattle.planning.specs.Plan.{Plan, pdus, read_in, identity_in, scope_of, requests_of, asked}

-- The range lies within the other.
abbrev pub Within : Range → Range → Type 0
Within r q = (q.start ≤ r.start) × (r.end ≤ q.end)

-- No offset is in two of the ranges.
abbrev pub EachOnce : List Range → Type 0
EachOnce rs = (x i j : ℕ) → i < length rs → j < length rs → In x (range_at rs i) → In x (range_at rs j) → i ≡ j

pub record Fits (rec : Reception) (xs : List ℕ) (d : Identity) (p : Plan) : Type 0 where
  -- each PDU reads
  pub reads : (k : ℕ) → k < pdus p → (read_in p k).refusal ≡ 0
  -- all carry the transfer's identity, lengths too
  pub identity : (k : ℕ) → k < pdus p → identity_in p k ≡ d
  -- requests other than (0, 0) lie within their PDU's scope
  pub within : (k : ℕ) → k < pdus p → (r : Range) → Memᴰ r (requests_of p k) → is_metadata r ≡ false → Within r (scope_of p k)
  -- no offset is asked twice
  pub once : EachOnce (asked p)
  -- the union is the record's missing offsets
  pub union : (x : ℕ) → Covers x (asked p) ↔ Covers x (counted xs rec.count)
  -- the metadata request is there once if metadata is missing and otherwise nowhere
  pub metadata : metadata_asked (asked p) ≡ cond rec.missing 1 0
