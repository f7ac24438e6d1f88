-- What a call answers, in document 01's numbers ("Numbers handed back on refusal").
use Rattle.std.specs.Prelude.{ℕ, cond, List, eqb}

-- A number, 0 where the call is accepted and else the refusal's, and the values that go with it.
pub record Outcome : Type 0 where
  pub number : ℕ
  pub values : List ℕ

abbrev pub accepted : List ℕ → Outcome
accepted vs = record { number = 0; values = vs }

abbrev pub refused : ℕ → List ℕ → Outcome
refused n vs = record { number = n; values = vs }

-- What is lent once a call has ended: `new` where it is accepted; nothing lent changes under any refusal.
abbrev pub lent {ℓ} : {A : Type ℓ} → Outcome → A → A → A
lent o new old = cond (eqb o.number 0) new old
