-- The data for the requests of a sequence arrives (document 02, C-24).
use Rattle.std.specs.Prelude.{ℕ, ◌+◌, ◌≤◌}
use mathlib.Core.List.{List, [], ◌∷◌, Memᴰ}
use Rattle.ranges.specs.Range.{Range, range, Covers}
use Rattle.reception.specs.History.{Event, Data, Metadata, Eof}

-- The event is data that lies inside one of the requests.
abbrev pub InsideOne : List Range → Event → Type 0
InsideOne rs (Data offset size) = (r : Range) × Memᴰ r rs × (r.start ≤ offset) × (offset + size ≤ r.end)
InsideOne rs Metadata = ⊥
InsideOne rs (Eof z) = ⊥

-- The ranges of the data among the events.
abbrev pub data_of : List Event → List Range
data_of [] = []
data_of (Data offset size ∷ es) = range offset (offset + size) ∷ data_of es
data_of (Metadata ∷ es) = data_of es
data_of (Eof z ∷ es) = data_of es

-- The data for every request arrives, in any order, repeated or cut smaller: each event is data inside a request, and together they
-- cover the requests.
pub record Arrives (rs : List Range) (es : List Event) : Type 0 where
  pub inside : (e : Event) → Memᴰ e es → InsideOne rs e
  pub covered : (x : ℕ) → Covers x rs → Covers x (data_of es)
