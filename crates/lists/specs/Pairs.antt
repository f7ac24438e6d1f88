-- Not of the papers: pairs that stand as arrays of two numbers.
use Rattle.std.specs.Prelude.{ℕ, List, [], ◌∷◌, flat_map}
use Rattle.ranges.specs.Range.{Range}
use Rattle.ranges.specs.Store.{pairs}

-- The ranges that such pairs are.
abbrev pub ranges_of : List (List ℕ) → List Range
ranges_of ps = pairs (flat_map (λ p. p) ps)

-- The pair that a range is.
abbrev pub pair_of : Range → List ℕ
pair_of r = r.start ∷ r.end ∷ []
