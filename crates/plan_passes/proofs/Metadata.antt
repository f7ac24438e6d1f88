-- The metadata is asked for by the PDUs before PDU k and by its own requests.
use mathlib.Core.Path.{◌≡◌, ap, ◌∙◌}
use mathlib.Core.List.{List}
use Prim.Native.Nat.{ℕ, suc, ◌+◌}
use native.Mathlib.Omega.{arith}
use Rattle.nak.specs.Request.{metadata_asked}
use Rattle.nak_parsing.specs.Step.{requests_given}
use Rattle.planning.specs.Plan.{Plan, packet, requests_of, asked_before}
use Rattle.planning.proofs.Exactly.{metadata-append}

pub asked-more : (p : Plan) (k times more : ℕ) {os : List ℕ} → os ≡ packet p k → times ≡ metadata_asked (asked_before p k) → more ≡ metadata_asked (requests_given p.edition os)
    → times + more ≡ metadata_asked (asked_before p (suc k))
asked-more p k times more e b m =
    let r : more ≡ metadata_asked (requests_of p k) = m ∙ ap (λ (os : List ℕ). metadata_asked (requests_given p.edition os)) e in
    omega (arith, r, b, metadata-append (asked_before p k) (requests_of p k))
