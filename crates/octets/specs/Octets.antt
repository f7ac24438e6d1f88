-- Big-endian fields (document 01, "big-endian start, end, F octets each"; Blue Book, the header's identifiers and lengths).
use Rattle.std.specs.Prelude.{ℕ, zero, suc, ◌+◌, ◌*◌, ◌/◌, ◌%◌, ◌^◌, ◌<◌, List, [], ◌∷◌, ◌++◌, Bool, ltb, length, take, drop}

-- The field of f octets that holds v: the last octet is what is left over when v is divided by 256, and those before it hold
-- the quotient. Of a number that does not fit, the lowest f octets.
abbrev pub field : ℕ → ℕ → List ℕ
field zero v = []
field (suc f) v = field f (v / 256) ++ (v % 256 ∷ [])

-- The octets of a list of numbers, a field of f octets for each.
abbrev pub fields : ℕ → List ℕ → List ℕ
fields f [] = []
fields f (v ∷ vs) = field f v ++ fields f vs

-- The number that octets hold: the first counts 256 for each octet behind it, to the power of their number.
abbrev pub number : List ℕ → ℕ
number [] = 0
number (o ∷ os) = o * 256 ^ length os + number os

-- The number v fits a field of f octets.
abbrev pub fits : ℕ → ℕ → Bool
fits f v = ltb v (256 ^ f)

-- Each is an octet: below 256.
abbrev pub AllOctets : List ℕ → Type 0
AllOctets [] = Unit
AllOctets (o ∷ os) = (o < 256) × AllOctets os

-- The list with the octets `new` from `at` on, in the place of as many.
unfoldable pub with_octets : List ℕ → ℕ → List ℕ → List ℕ
with_octets xs at new = take at xs ++ new ++ drop (at + length new) xs
