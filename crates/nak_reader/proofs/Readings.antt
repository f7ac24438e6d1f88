-- Stepping the reader from where reading left it gives exactly the requests, in order, and then the end, forever.
use mathlib.Core.Path.{◌≡◌, refl, sym, ap, ◌∙◌}
use mathlib.Core.List.{List, [], ◌∷◌, ◌++◌}
use Prim.Native.Nat.{ℕ, zero, suc, ◌+◌}
use lib.ListN.{length, replicate}
use denote.Ref.{Bor}
use Rattle.outcomes.specs.Outcome.{Outcome, accepted}
use Rattle.nak.specs.declared.Edition.{Edition}
use Rattle.nak_parsing.specs.Step.{step_outcome, steps, each_request, requests_given}
use Rattle.nak_parsing.proofs.ParsedOf.{part-of}
use Rattle.nak_parsing.proofs.Stepping.{stepping}
use Rattle.nak_reader.specs.declared.NakReader.{NakReader}
use Rattle.nak_reader.specs.Reader.{reader_of, reader_after, readings}

-- a reader's steps are those from its place
steps_of : (k : ℕ) (r : NakReader) → readings r k ≡ steps r.packet.now r.at k
steps_of zero r = refl
steps_of (suc k) r = ap (λ (os : List Outcome). step_outcome r.packet.now r.at ∷ os) (steps_of k (reader_after r))

-- from the reader that reading hands back
pub reading : (e : Edition) (p : Bor (List ℕ)) (k : ℕ) → readings (reader_of e p) (length (requests_given e p.now) + k) ≡ each_request (requests_given e p.now) ++ replicate k (accepted [])
reading e p k =
    steps_of (length (requests_given e p.now) + k) (reader_of e p)
    ∙ ap (λ (at : ℕ). steps p.now at (length (requests_given e p.now) + k)) (sym (part-of e p.now).next)
    ∙ stepping e p.now k
