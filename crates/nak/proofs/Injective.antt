-- Two answers with one outcome are equal, so the statements of writing and of its checks allow one answer.
use Rattle.std.specs.Prelude.{Result, ⊤}
use mathlib.Core.Path.{◌≡◌}
use Prim.Native.Nat.{ℕ}
use Rattle.outcomes.specs.Checks.{verdict_case}
use Rattle.outcomes.specs.declared.Refusal.{Refusal}
use Rattle.outcomes.proofs.Answered.{one-itself, one-nothing}
use Rattle.nak.specs.Writer.{write_case}

pub write_injective : (r s : Result ℕ Refusal) → write_case r ≡ write_case s → r ≡ s
write_injective = one-itself

-- and two verdicts with one outcome
pub verdict_injective : (r s : Result ⊤ Refusal) → verdict_case r ≡ verdict_case s → r ≡ s
verdict_injective = one-nothing
