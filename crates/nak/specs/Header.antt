-- Octets 0 and 3 of a PDU: the fixed bits, and what the others say (document 01, "The NAK PDU"; Blue Book, PDU header; the older
-- edition and the CRC flag: document 02, C-20 and C-11).
use Rattle.std.specs.Prelude.{ℕ, ◌+◌, ◌*◌, ◌-◌, ◌/◌, ◌%◌, Bool, true, false, ◌||◌, not, cond, eqb}
use Rattle.octets.specs.declared.LargeFileFlag.{LargeFileFlag}
use Rattle.octets.specs.declared.LargeFileFlag.TheVariants.{Normal, Large}
use Rattle.nak.specs.declared.Edition.{Edition}
use Rattle.nak.specs.declared.Edition.TheVariants.{Older, Newer}
use Rattle.nak.specs.declared.Form.{Form}

-- The version bits: 001, in the older edition 000.
abbrev pub version_of : Edition → ℕ
version_of Older = 0
version_of Newer = 1

-- Octet 0 from the top: version 3 bits, type 0, direction 1, mode 0, the CRC flag; the lowest bit is the large file flag, in the older
-- edition reserved and 0.
abbrev pub fixed0 : Edition → ℕ
fixed0 e = version_of e * 32 + 0 * 16 + 1 * 8 + 0 * 4

-- Octet 3 from the top: segmentation control 0, three bits, segment metadata flag 0, three bits.
abbrev pub fixed3 : ℕ
fixed3 = 0 * 128 + 0 * 8

-- What an octet 0 has at the places of the fixed bits: all but the CRC flag and the lowest, in the older edition all but the CRC flag.
abbrev pub fixed_bits0 : Edition → ℕ → ℕ
fixed_bits0 Older o = o / 4 * 4 + o % 2
fixed_bits0 Newer o = o / 4 * 4

-- Of octet 3, the top bit and the fourth from below.
abbrev pub fixed_bits3 : ℕ → ℕ
fixed_bits3 o = o / 128 * 128 + o / 8 % 2 * 8

-- 15: any fixed bit of octets 0 and 3 wrong.
unfoldable pub wrong_fixed : Edition → ℕ → ℕ → Bool
wrong_fixed e o0 o3 = not (eqb (fixed_bits0 e o0) (fixed0 e)) || not (eqb (fixed_bits3 o3) fixed3)

-- The large file flag as a bit.
abbrev pub flag_bit : LargeFileFlag → ℕ
flag_bit Normal = 0
flag_bit Large = 1

-- The CRC flag as a bit.
abbrev pub crc_bit : Bool → ℕ
crc_bit crc = cond crc 1 0

-- Octet 0 of a PDU of this form.
abbrev pub octet0 : Form → ℕ
octet0 g = fixed0 g.edition + crc_bit g.crc * 2 + flag_bit g.flag

-- 15 in writing: under the older edition a large flag, which would set the reserved bit.
abbrev pub is_reserved_set : Edition → LargeFileFlag → Bool
is_reserved_set Older Normal = false
is_reserved_set Older Large = true
is_reserved_set Newer flag = false

-- Octet 3 of a PDU: entity identifier length less 1 (3 bits), sequence number length less 1 (3 bits).
abbrev pub octet3 : ℕ → ℕ → ℕ
octet3 i q = fixed3 + (i - 1) * 16 + (q - 1)

-- The flag that octet 0 says.
abbrev pub flag_of : ℕ → LargeFileFlag
flag_of o0 = cond (eqb (o0 % 2) 0) Normal Large

-- Whether octet 0 says that there is a trailer.
abbrev pub crc_flag_of : ℕ → Bool
crc_flag_of o0 = eqb (o0 / 2 % 2) 1

-- The form that octet 0 says, on a link of this edition.
abbrev pub form_of : Edition → ℕ → Form
form_of e o0 = record { edition = e; flag = flag_of o0; crc = crc_flag_of o0 }

-- The entity identifier length and the sequence number length that octet 3 says.
abbrev pub entity_length_of : ℕ → ℕ
entity_length_of o3 = o3 / 16 % 8 + 1

abbrev pub number_length_of : ℕ → ℕ
number_length_of o3 = o3 % 8 + 1
