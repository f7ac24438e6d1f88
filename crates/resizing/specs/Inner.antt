-- What the inner functions leave in the pool's list on the way. The contracts of the calls do not cite it.
use Rattle.std.specs.Prelude.{ℕ, suc, ◌+◌, ◌*◌, ◌-◌, ◌≤◌, cond, List, ◌++◌, ltb, length, take, drop, replicate}
use Rattle.ranges.specs.Range.{Range}
use Rattle.ranges.specs.Store.{counted, stored, most_numbers}
use Rattle.ranges.specs.Inner.Moves.{over, shifted, replaced}
use Rattle.pooling.specs.Share.{part}
use Rattle.resizing.specs.declared.inner.place.Place.{Place}

-- The place's ranges are among those of the list, and which they are; how many it has room for.
abbrev pub LiesIn : Place → List ℕ → Type 0
LiesIn w xs = (w.at + w.count ≤ w.total) × ((2 * w.total ≤ length xs) × (length xs ≤ most_numbers))

abbrev pub ranges_at : Place → List ℕ → List Range
ranges_at w xs = counted (part (2 * w.at) (2 * (w.at + w.count)) xs) w.count

abbrev pub room_at : Place → ℕ
room_at w = cond w.full w.count (suc w.count)

-- The list xs with `total` ranges, once qs stand in place of the m from place `at` on; as it was where there is no room for qs.
abbrev pub cut_at : ℕ → ℕ → ℕ → ℕ → List Range → List ℕ → List ℕ
cut_at room at m total qs xs = cond (ltb room (length qs)) xs (stored (replaced at (at + m) qs (counted xs total)) total xs)

-- The list xs with ys in the place of the numbers from a up to e.
abbrev pub with_part : ℕ → ℕ → List ℕ → List ℕ → List ℕ
with_part a e ys xs = take a xs ++ (ys ++ drop (e - a) (drop a xs))

-- The list xs with `total` ranges, once those behind the m from place `at` on have moved down to stand behind n of them, and the slots given up
-- at the end are zeros.
abbrev pub closed_up : ℕ → ℕ → ℕ → ℕ → List ℕ → List ℕ
closed_up at m n total xs =
    over (shifted xs (2 * (at + m)) (2 * (at + n)) (2 * (total - (at + m)))) (2 * (total - (m - n))) (2 * total - 2 * (total - (m - n)))
    (replicate (2 * total - 2 * (total - (m - n))) 0)
