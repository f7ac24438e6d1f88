-- Not of document 01: what the pass of coalesce asks of the ranges so far. Only its contract and proof cite it.
use Rattle.std.specs.Prelude.{List, [], ◌∷◌, ℕ, ◌≤◌}
use Rattle.ranges.specs.Range.{Range}

-- The ranges start no later than s.
abbrev pub Low : ℕ → List Range → Type 0
Low s [] = Unit
Low s (q ∷ qs) = (q.start ≤ s) × Low s qs
