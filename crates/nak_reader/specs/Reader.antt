-- The reader over the caller's octets (document 01, "An accepted packet is handed back as a reader over the caller's octets").
use Rattle.std.specs.Prelude.{ℕ, zero, suc, List, [], ◌∷◌, length}
use Rattle.std.specs.Borrow.{Bor}
use Rattle.outcomes.specs.Outcome.{Outcome, lent}
use Rattle.nak.specs.declared.Edition.{Edition}
use Rattle.nak_parsing.specs.Parser.{requests_at, read_outcome}
use Rattle.nak_parsing.specs.Step.{step_outcome, place_after}
use Rattle.nak_reader.specs.declared.NakReader.{NakReader}

-- The reader of a packet: the caller's own octets, at the first request; of a refused packet, at its end.
abbrev pub reader_of : Edition → Bor (List ℕ) → NakReader
reader_of e p = record { packet = p; at = lent (read_outcome e p.now) (requests_at p.now) (length p.now) }

-- The reader after a step: the same octets, at the place after it.
abbrev pub reader_after : NakReader → NakReader
reader_after r = record { packet = r.packet; at = place_after r.packet.now r.at }

-- What k steps of a reader give, each from the reader that the step before it left.
abbrev pub readings : NakReader → ℕ → List Outcome
readings r zero = []
readings r (suc k) = step_outcome r.packet.now r.at ∷ readings (reader_after r) k
