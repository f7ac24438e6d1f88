-- Not of the papers: where a range goes in a coalesced list. Only the contracts and proofs of this crate cite it.
use Rattle.std.specs.Prelude.{ℕ, Bool, List, leb}
use Rattle.ranges.specs.Range.{Range, place}

-- The range ends at s or above: a range that starts at s overlaps it, touches it or lies before it.
abbrev pub reaches : ℕ → Range → Bool
reaches s r = leb s r.end

-- The place of the first that does.
abbrev pub reaching : ℕ → List Range → ℕ
reaching s rs = place (reaches s) rs
