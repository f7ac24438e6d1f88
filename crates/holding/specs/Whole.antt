-- Ranges of a list that come whole.
use Rattle.std.specs.Prelude.{◌+◌, ◌≡◌, true}
use mathlib.Core.List.{List, [], ◌∷◌, Memᴰ}
use Rattle.ranges.specs.Range.{Range, range}
use Rattle.reception.specs.History.{Event, Data, Metadata, Eof, State, is_accepted, step}

-- The event is data: one of the ranges, whole.
abbrev pub WholeOne : List Range → Event → Type 0
WholeOne rs (Data offset size) = Memᴰ (range offset (offset + size)) rs
WholeOne rs Metadata = ⊥
WholeOne rs (Eof z) = ⊥

abbrev pub AllWhole : List Range → List Event → Type 0
AllWhole rs [] = Unit
AllWhole rs (e ∷ es) = WholeOne rs e × AllWhole rs es

-- None is refused, each judged at its turn.
abbrev pub NoneRefused : State → List Event → Type 0
NoneRefused s [] = Unit
NoneRefused s (e ∷ es) = (is_accepted s e ≡ true) × NoneRefused (step s e) es
