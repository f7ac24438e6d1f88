-- What the events have of their transfer on the way. The contracts of the calls do not cite it.
use Rattle.std.specs.Prelude.{ℕ}
use Rattle.pooling.specs.declared.Pool.{Pool}
use Rattle.pooling.specs.Pool.{count_at, is_no_room}
use Rattle.pooling.specs.Share.{base, total}
use Rattle.resizing.specs.declared.inner.place.Place.{Place}

-- Where the ranges of transfer i lie in a list of S slots.
abbrev pub place_of : Pool → ℕ → ℕ → Place
place_of p S i = record { at = base p i; count = count_at p i; total = total p; full = is_no_room p S i }
