-- What every accepted change says of the slots behind the counted ones (document 01, "Ranges and the store").
use Rattle.std.specs.Prelude.{ℕ, ◌*◌, ◌≤◌, ◌<◌, ◌≡◌, List, get_or, drop}

-- The list xs with count n became ys with count m: slots from the new count up to the old count hold (0, 0); slots past both
-- counts keep their contents.
pub record Slots (xs : List ℕ) (n : ℕ) (ys : List ℕ) (m : ℕ) : Type 0 where
  pub given_up : (i : ℕ) → 2 * m ≤ i → i < 2 * n → get_or ys i 0 ≡ 0
  pub kept : (i : ℕ) → 2 * m ≤ i → 2 * n ≤ i → drop i ys ≡ drop i xs
