-- Worked examples: the published check value, and document 01's example packet under the CRC flag with its trailer.
use mathlib.Core.Path.{◌≡◌, refl}
use mathlib.Core.List.{List, [], ◌∷◌}
use Prim.Native.Nat.{ℕ}
use Rattle.crc.specs.Crc.{shifted, crc_of, trailer}

-- of the nine octets "123456789"
pub check_value : crc_of (0x31 ∷ 0x32 ∷ 0x33 ∷ 0x34 ∷ 0x35 ∷ 0x36 ∷ 0x37 ∷ 0x38 ∷ 0x39 ∷ []) ≡ 0x29b1
unfolding shifted
check_value = refl

pub no_octets : crc_of [] ≡ 0xffff
no_octets = refl

-- the example packet: octet 0 has the flag, and the length field counts the two octets of the trailer
abbrev pub packet : List ℕ
packet =
    0x2a ∷ 0x00 ∷ 0x1b ∷ 0x00 ∷ 0x01 ∷ 0x07 ∷ 0x02 ∷ 0x08 ∷ 0x00 ∷ 0x00 ∷ 0x00 ∷ 0x00 ∷ 0x00 ∷ 0x00 ∷ 0x03 ∷ 0xe8 ∷ 0x00 ∷ 0x00
    ∷ 0x00 ∷ 0x00 ∷ 0x00 ∷ 0x00 ∷ 0x00 ∷ 0x00 ∷ 0x00 ∷ 0x00 ∷ 0x00 ∷ 0x64 ∷ 0x00 ∷ 0x00 ∷ 0x00 ∷ 0xc8 ∷ []

pub packet-trailer : trailer (crc_of packet) ≡ 0x02 ∷ 0x65 ∷ []
unfolding shifted
packet-trailer = refl
