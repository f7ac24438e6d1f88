-- The packets that lie back to back in some octets, by a list of their lengths.
use Rattle.std.specs.Prelude.{ℕ, List, [], ◌∷◌, take, drop}

abbrev pub packets_in : List ℕ → List ℕ → List (List ℕ)
packets_in [] os = []
packets_in (n ∷ ns) os = take n os ∷ packets_in ns (drop n os)
