-- What the inner functions of the pool's checks test on the way. The contracts of the calls do not cite it.
use Rattle.std.specs.Prelude.{ℕ, Bool, ◌&&◌, ◌||◌, not, List, [], ◌∷◌, eqb}
use Rattle.outcomes.specs.Checks.{Check}
use Rattle.outcomes.specs.declared.Refusal.TheVariants as refusal
use Rattle.pooling.specs.declared.Pool.{Pool}
use Rattle.pooling.specs.Pool.{any_below}
use Rattle.pooling.specs.Share.{is_unknown, is_bad_share, is_bad_transfer}

-- Transfer k is 10 by itself, and another than the one that is named.
abbrev pub is_bad_other : Pool → List ℕ → ℕ → ℕ → Bool
is_bad_other p xs i k = not (eqb k i) && is_bad_transfer p xs k

-- 23, and 10 but for the record of transfer i.
abbrev pub other_checks : Pool → List ℕ → ℕ → List Check
other_checks p xs i =
    (is_unknown p xs i, refusal.BadPool)
    ∷ (is_bad_share p xs || any_below (is_bad_other p xs i) p.used, refusal.BadStore)
    ∷ []

-- What a call has of its transfer is told by no number.
abbrev pub unnumbered : {A : Type 0} → A → List ℕ
unnumbered a = []
