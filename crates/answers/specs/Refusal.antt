-- How many values a refusal carries, told from its number alone.
use Rattle.std.specs.Prelude.{ℕ, ◌≡◌, length}
use Rattle.outcomes.specs.Refusal.{refusing}
use Rattle.outcomes.specs.declared.Refusal.{Refusal}

-- Every refusal of this number carries n values.
abbrev pub Carries : ℕ → ℕ → Type 0
Carries number n = (r : Refusal) → (refusing r).number ≡ number → n ≡ length (refusing r).values
