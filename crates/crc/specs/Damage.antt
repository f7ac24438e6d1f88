-- Octets that end in their CRC, and damage to a single bit.
use Rattle.std.specs.Prelude.{◌≡◌, Bool, ◌&&◌, List, ◌++◌, ℕ, ◌-◌, ◌^◌, ◌<◌, leb, eqb, length, get_or, take, drop}
use Rattle.std.specs.Int.Bits.{bit_xor}
use Rattle.octets.specs.Octets.{number}
use Rattle.crc.specs.Crc.{crc_of, trailer}

-- Octets followed by their CRC.
abbrev pub EndsInCrc : List ℕ → Type 0
EndsInCrc p = (os : List ℕ) × (p ≡ os ++ trailer (crc_of os))

-- The same as a test: there are two octets at the end, and the number that they hold is the CRC of the octets before them.
abbrev pub ends_in_crc : List ℕ → Bool
ends_in_crc p = leb 2 (length p) && eqb (number (drop (length p - 2) p)) (crc_of (take (length p - 2) p))

-- The octet with its bit k turned over, k from 0 for the lowest to 7.
abbrev pub turned_over : ℕ → ℕ → ℕ
turned_over o k = bit_xor o (2 ^ k)

-- Octet i of q is that of p with the bit k turned over; all else is the same.
abbrev pub DiffersAt : ℕ → ℕ → List ℕ → List ℕ → Type 0
DiffersAt i k p q =
    (length q ≡ length p) × (get_or q i 0 ≡ turned_over (get_or p i 0) k) × ((j : ℕ) → (j ≡ i → ⊥) → get_or q j 0 ≡ get_or p j 0)

-- They differ in exactly one bit of one octet.
abbrev pub DiffersInOneBit : List ℕ → List ℕ → Type 0
DiffersInOneBit p q = (i : ℕ) × (k : ℕ) × (i < length p) × (k < 8) × DiffersAt i k p q
