-- Lists of bits: a message is one.
use mathlib.Core.List.{List, [], ◌∷◌, ◌++◌, map}
use Prim.Native.Nat.{ℕ, ◌/◌, ◌^◌, ◌<◌}
use native.Mathlib.Nat.{mod-lt}
use native.Mathlib.Omega.{arith}
use Rattle.crc.specs.Crc.{bit_at, places, bits_of, message}

abbrev pub Binary : List ℕ → Type 0
Binary [] = Unit {0}
Binary (b ∷ bs) = (b < 2) × Binary bs

pub binary_append : (xs ys : List ℕ) → Binary xs → Binary ys → Binary (xs ++ ys)
binary_append [] ys h k = k
binary_append (x ∷ xs) ys h k = (h.0, binary_append xs ys h.1 k)

pub binary_bits : (o : ℕ) (ks : List ℕ) → Binary (map (bit_at o) ks)
binary_bits o [] = tt
binary_bits o (k ∷ ks) = (mod-lt (o / 2 ^ k) (omega arith), binary_bits o ks)

pub binary_message : (os : List ℕ) → Binary (message os)
binary_message [] = tt
binary_message (o ∷ os) = binary_append (bits_of o) (message os) (binary_bits o places) (binary_message os)
