-- Check 10, which every call on a store begins with (document 01, "Ranges and the store").
use Rattle.std.specs.Prelude.{ℕ, Bool, List, [], ◌∷◌}
use Rattle.outcomes.specs.Checks.{Check}
use Rattle.outcomes.specs.declared.Refusal.TheVariants as refusal
use Rattle.ranges.specs.Store.{limit_of, is_bad_store}
use Rattle.segment_store.specs.declared.Store.{Store}

-- 10: the lent list is no store with this count and width.
abbrev pub is_bad : List ℕ → Store → Bool
is_bad xs st = is_bad_store xs st.count (limit_of st.width)

-- The checks of a call that only 10 refuses.
abbrev pub store_checks : List ℕ → Store → List Check
store_checks xs st = (is_bad xs st, refusal.BadStore) ∷ []
