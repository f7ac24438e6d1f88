-- Octets counted: how many offsets below a number belong to a set (document 02, C-24). It is a count of offsets, not of ranges: an
-- offset that several ranges of a list have counts once.
use Rattle.std.specs.Prelude.{ℕ, zero, suc, Bool, ◌&&◌, cond, List, leb, ltb}
use Rattle.ranges.specs.Range.{Range, some}

-- How many offsets below n pass the test t.
abbrev pub count_below : (ℕ → Bool) → ℕ → ℕ
count_below t zero = zero
count_below t (suc n) = cond (t n) (suc (count_below t n)) (count_below t n)

-- Offset x is in the range r.
abbrev pub is_in : ℕ → Range → Bool
is_in x r = leb r.start x && ltb x r.end

-- Offset x is in one of the ranges.
abbrev pub is_covered : List Range → ℕ → Bool
is_covered rs x = some (is_in x) rs

-- How many offsets below n the ranges have.
abbrev pub octets_below : ℕ → List Range → ℕ
octets_below n rs = count_below (is_covered rs) n

-- How many offsets below n the ranges and the range r have in common.
abbrev pub shared_below : ℕ → Range → List Range → ℕ
shared_below n r rs = count_below (λ x. is_covered rs x && is_in x r) n
