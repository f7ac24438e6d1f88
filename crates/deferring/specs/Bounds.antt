-- Where a timer of countdowns of d ticks and a limit may stand.
use Rattle.std.specs.Prelude.{ℕ, ◌≤◌, ◌≡◌}
use Rattle.deferring.specs.declared.Activity.{Activity}
use Rattle.deferring.specs.declared.Activity.TheVariants as activity
use Rattle.deferring.specs.declared.Deferred.{Deferred}

-- Idle: nothing is left, and the counter is 0. Active: 1 to d ticks are left, and the counter is at most the limit. Deaf: nothing is left,
-- and the counter is the limit.
abbrev pub Stands : ℕ → ℕ → Activity → ℕ → ℕ → Type 0
Stands d limit activity.Idle left counter = (left ≡ 0) × (counter ≡ 0)
Stands d limit activity.Active left counter = (1 ≤ left) × (left ≤ d) × (counter ≤ limit)
Stands d limit activity.Deaf left counter = (left ≡ 0) × (counter ≡ limit)

pub record InBounds (d limit : ℕ) (t : Deferred) : Type 0 where
  pub period : t.period ≡ d
  pub most : t.limit ≡ limit
  pub stands : Stands d limit t.activity t.left t.counter
