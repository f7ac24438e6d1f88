-- The first request that octets hold from a place on, and those behind it.
use mathlib.Core.Path.{◌≡◌}
use mathlib.Core.List.{List, ◌∷◌}
use Prim.Native.Nat.{ℕ, suc, ◌+◌, ◌*◌}
use lib.ListN.{drop}
use lib.Seq.{drop-drop}
use Rattle.ranges.specs.Range.{range}
use Rattle.nak_parsing.specs.Parser.{requests_in, field_at}

-- the request at a place of a packet, and those behind it
pub first_request : (p : List ℕ) (at f k : ℕ) {s e : ℕ} → s ≡ field_at p at f → e ≡ field_at p (at + f) f → requests_in f (suc k) (drop at p) ≡ range s e ∷ requests_in f k (drop (at + 2 * f) p)
first_request p at f k h g = rw (h, g, drop-drop f at p, drop-drop (2 * f) at p)
