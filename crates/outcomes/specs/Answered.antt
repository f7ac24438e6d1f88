-- What a call answers, as an outcome: accepted with the numbers of its value, or the refusal.
use Rattle.std.specs.Prelude.{ℕ, Bool, true, false, List, [], ◌∷◌, Result, Ok, Err, ⊤}
use Rattle.outcomes.specs.Outcome.{Outcome, accepted}
use Rattle.outcomes.specs.Refusal.{refusing}
use Rattle.outcomes.specs.declared.Refusal.{Refusal}

abbrev pub answered : {A : Type 0} → (A → List ℕ) → Result A Refusal → Outcome
answered values (Ok a) = accepted (values a)
answered values (Err r) = refusing r

-- The numbers of a value: none, its own, or 1 for yes and 0 for no.
abbrev pub nothing : ⊤ → List ℕ
nothing u = []

abbrev pub itself : ℕ → List ℕ
itself n = n ∷ []

abbrev pub yes_or_no : Bool → List ℕ
yes_or_no true = 1 ∷ []
yes_or_no false = 0 ∷ []
