-- The large file flag: how long the field of a file offset is, and the largest number that it holds.
use Rattle.std.specs.Prelude.{ℕ}
use Rattle.octets.specs.declared.LargeFileFlag.{LargeFileFlag}
use Rattle.octets.specs.declared.LargeFileFlag.TheVariants.{Normal, Large}

-- F is 4 (normal) or 8 (large).
abbrev pub field_length : LargeFileFlag → ℕ
field_length Normal = 4
field_length Large = 8

-- The largest number that a field of F octets holds: 2^32 − 1 or 2^64 − 1.
abbrev pub largest_of : LargeFileFlag → ℕ
largest_of Normal = 4294967295
largest_of Large = 18446744073709551615
