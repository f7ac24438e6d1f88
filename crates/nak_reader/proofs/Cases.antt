-- The statement of a step allows one answer. Reading's own contract does so by itself: what the packet says and the reader are
-- given whole, and of the part of the requests the octets and where they lie, which is all that its machine value has.
use Rattle.std.specs.Prelude.{ℕ, Option}
use mathlib.Core.Path.{◌≡◌, sym, ap, ◌∙◌}
use Rattle.nak_parsing.specs.Step.{step_case, step_outcome}
use Rattle.nak_parsing.proofs.Stepping.{step_injective}
use Rattle.nak_reader.specs.declared.NakReader.{NakReader}
use Rattle.nak_reader.specs.declared.Taken.{Taken}
use Rattle.nak_reader.specs.Reader.{reader_after}

-- Two that meet the contract of `next_request` for one reader are equal.
pub one-taken :
    (d : NakReader) (r s : Taken)
    → (step_case r.step ≡ step_outcome d.packet.now d.at) × (r.reader ≡ reader_after d)
    → (step_case s.step ≡ step_outcome d.packet.now d.at) × (s.reader ≡ reader_after d)
    → r ≡ s
one-taken d r s a b =
    ap (λ (z : Option (ℕ × ℕ)). taken z r.reader) (step_injective r.step s.step (a.0 ∙ sym b.0)) ∙ ap (taken s.step) (a.1 ∙ sym b.1)
  where
    taken : Option (ℕ × ℕ) → NakReader → Taken
    taken z e = record { step = z; reader = e }
