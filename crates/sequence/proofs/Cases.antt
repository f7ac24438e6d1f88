-- No two answers of the sequence have one outcome, so its statement allows one answer.
use Rattle.std.specs.Prelude.{Result}
use mathlib.Core.Path.{◌≡◌, refl}
use lib.ListN.{get_or}
use Rattle.outcomes.specs.declared.Refusal.{Refusal}
use Rattle.outcomes.proofs.Answered.{one-answer}
use Rattle.sequence.specs.Sequence.{sequence_case, sent_values}
use Rattle.sequence.specs.declared.Sent.{Sent}

pub one_sequence : (r s : Result Sent Refusal) → sequence_case r ≡ sequence_case s → r ≡ s
one_sequence = one-answer sent_values (λ vs. record { pdus = get_or vs 0 0; octets = get_or vs 1 0; cursor = get_or vs 2 0 }) (λ s. refl)
