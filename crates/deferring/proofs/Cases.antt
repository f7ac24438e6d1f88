-- No two answers of a reset have one outcome, and no two structs that carry an answer have one outcome, one timer and one record: so each
-- call's statement allows one answer.
use Rattle.std.specs.Prelude.{Result, ⊤}
use mathlib.Core.Path.{◌≡◌}
use Rattle.outcomes.specs.declared.Refusal.{Refusal}
use Rattle.outcomes.proofs.Answered.{one-nothing}
use Rattle.reception.specs.declared.data.Received.{Received}
use Rattle.reception.specs.Data.{data_case}
use Rattle.reception.specs.Metadata.{metadata_case}
use Rattle.reception.specs.Eof.{eof_case}
use Rattle.reception.proofs.Cases.{one_data, one-metadata, one_eof}
use Rattle.deferring.specs.Reset.{reset_case}
use Rattle.deferring.specs.declared.Heard.{Heard}
use Rattle.deferring.specs.declared.HeardDone.{HeardDone}

pub one_reset : (r s : Result ⊤ Refusal) → reset_case r ≡ reset_case s → r ≡ s
one_reset = one-nothing

pub one_reset_done : (r s : Heard ⊤) → reset_case r.answer ≡ reset_case s.answer → r.timer ≡ s.timer → r ≡ s
one_reset_done r s a t = λ i. record { answer = one_reset r.answer s.answer a i; timer = t i }

-- the events with the timer, and by value with the record too
pub one_data_heard : (r s : Heard Received) → data_case r.answer ≡ data_case s.answer → r.timer ≡ s.timer → r ≡ s
one_data_heard r s a t = λ i. record { answer = one_data r.answer s.answer a i; timer = t i }

pub one-metadata-heard : (r s : Heard ⊤) → metadata_case r.answer ≡ metadata_case s.answer → r.timer ≡ s.timer → r ≡ s
one-metadata-heard r s a t = λ i. record { answer = one-metadata r.answer s.answer a i; timer = t i }

pub one_eof_heard : (r s : Heard ⊤) → eof_case r.answer ≡ eof_case s.answer → r.timer ≡ s.timer → r ≡ s
one_eof_heard r s a t = λ i. record { answer = one_eof r.answer s.answer a i; timer = t i }

pub one_data_heard-done : (r s : HeardDone Received) → data_case r.heard.answer ≡ data_case s.heard.answer → r.heard.timer ≡ s.heard.timer → r.rec ≡ s.rec → r ≡ s
one_data_heard-done r s a t e = λ i. record { heard = one_data_heard r.heard s.heard a t i; rec = e i }

pub one-metadata-heard-done : (r s : HeardDone ⊤) → metadata_case r.heard.answer ≡ metadata_case s.heard.answer
    → r.heard.timer ≡ s.heard.timer → r.rec ≡ s.rec → r ≡ s
one-metadata-heard-done r s a t e = λ i. record { heard = one-metadata-heard r.heard s.heard a t i; rec = e i }

pub one_eof_heard-done : (r s : HeardDone ⊤) → eof_case r.heard.answer ≡ eof_case s.heard.answer → r.heard.timer ≡ s.heard.timer → r.rec ≡ s.rec → r ≡ s
one_eof_heard-done r s a t e = λ i. record { heard = one_eof_heard r.heard s.heard a t i; rec = e i }
