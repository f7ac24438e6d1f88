-- The CRC of document 02, C-11: "the CCSDS polynomial x^16 + x^12 + x^5 + 1, preset to ones", by division bit by bit. It is the one
-- catalogued as CRC-16/CCITT-FALSE: octets and remainder are not reflected, and nothing is added at the end.
use Rattle.std.specs.Prelude.{ℕ, ◌+◌, ◌*◌, ◌/◌, ◌%◌, ◌^◌, ◌-◌, cond, List, [], ◌∷◌, ◌++◌, map, eqb}
use Rattle.std.specs.Int.Bits.{bit_xor}

-- x^12 + x^5 + 1, what is left of the polynomial once its top term has gone with the bit that leaves.
abbrev pub polynomial : ℕ
polynomial = 2 ^ 12 + 2 ^ 5 + 1

-- Sixteen ones.
abbrev pub preset : ℕ
preset = 2 ^ 16 - 1

-- The bit at a place of an octet, and all eight, the highest first.
abbrev pub bit_at : ℕ → ℕ → ℕ
bit_at o k = o / 2 ^ k % 2

abbrev pub places : List ℕ
places = 7 ∷ 6 ∷ 5 ∷ 4 ∷ 3 ∷ 2 ∷ 1 ∷ 0 ∷ []

abbrev pub bits_of : ℕ → List ℕ
bits_of o = map (bit_at o) places

-- The bits of octets, in order.
abbrev pub message : List ℕ → List ℕ
message [] = []
message (o ∷ os) = bits_of o ++ message os

-- One bit of the message: the remainder moves up by one place, and where the bit that leaves it differs from the message's, the
-- polynomial is subtracted, which is an exclusive or.
unfoldable pub shifted : ℕ → ℕ → ℕ
shifted r b = cond (eqb (r / 2 ^ 15) b) (r * 2 % 2 ^ 16) (bit_xor (r * 2 % 2 ^ 16) polynomial)

-- All the bits, from a remainder on.
abbrev pub divided : ℕ → List ℕ → ℕ
divided r [] = r
divided r (b ∷ bs) = divided (shifted r b) bs

-- The CRC of octets.
abbrev pub crc_of : List ℕ → ℕ
crc_of os = divided preset (message os)

-- The trailer: the two octets of a CRC as they are sent, the high one first.
abbrev pub trailer : ℕ → List ℕ
trailer r = r / 256 ∷ r % 256 ∷ []
