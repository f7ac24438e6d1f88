-- No two answers of an event have one outcome, and no two structs that carry an answer have one outcome and one record: so each
-- event's statement allows one answer.
use Rattle.std.specs.Prelude.{Result, ⊤}
use mathlib.Core.Path.{◌≡◌, refl}
use mathlib.Core.Bool.{cond}
use lib.Dec.{eqb}
use lib.ListN.{get_or}
use Rattle.outcomes.specs.declared.Refusal.{Refusal}
use Rattle.outcomes.proofs.Answered.{one-answer, one-nothing}
use Rattle.reception.specs.Data.{data_case, received_values}
use Rattle.reception.specs.Metadata.{metadata_case}
use Rattle.reception.specs.Eof.{eof_case}
use Rattle.reception.specs.declared.Done.{Done}
use Rattle.reception.specs.declared.data.Received.{Received}
use Rattle.reception.specs.declared.data.Received.TheVariants as received

pub one_data : (r s : Result Received Refusal) → data_case r ≡ data_case s → r ≡ s
one_data = one-answer received_values (λ vs. cond (eqb (get_or vs 0 0) 0) received.Noticed received.Kept) told
  where
    told : (r : Received) → cond (eqb (get_or (received_values r) 0 0) 0) received.Noticed received.Kept ≡ r
    told received.Noticed = refl
    told received.Kept = refl

pub one-metadata : (r s : Result ⊤ Refusal) → metadata_case r ≡ metadata_case s → r ≡ s
one-metadata = one-nothing

pub one_eof : (r s : Result ⊤ Refusal) → eof_case r ≡ eof_case s → r ≡ s
one_eof = one-nothing

-- what a caller has after a step
pub one_data_done : (r s : Done Received) → data_case r.answer ≡ data_case s.answer → r.rec ≡ s.rec → r ≡ s
one_data_done r s a e = λ i. record { answer = one_data r.answer s.answer a i; rec = e i }

pub one-metadata-done : (r s : Done ⊤) → metadata_case r.answer ≡ metadata_case s.answer → r.rec ≡ s.rec → r ≡ s
one-metadata-done r s a e = λ i. record { answer = one-metadata r.answer s.answer a i; rec = e i }

pub one_eof_done : (r s : Done ⊤) → eof_case r.answer ≡ eof_case s.answer → r.rec ≡ s.rec → r ≡ s
one_eof_done r s a e = λ i. record { answer = one_eof r.answer s.answer a i; rec = e i }
