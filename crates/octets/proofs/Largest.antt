-- The largest number of a flag is the largest that its field holds.
use Prim.Native.Nat.{ℕ, ◌^◌, ◌≤◌, ◌<◌}
use native.Mathlib.Omega.{arith}
use Rattle.octets.specs.declared.LargeFileFlag.{LargeFileFlag}
use Rattle.octets.specs.declared.LargeFileFlag.TheVariants.{Normal, Large}
use Rattle.octets.specs.Flag.{field_length, largest_of}

pub largest-fits : (f : LargeFileFlag) (v : ℕ) → v ≤ largest_of f → v < 256 ^ field_length f
largest-fits Normal v h = omega arith
largest-fits Large v h = omega arith

pub fits-largest : (f : LargeFileFlag) (v : ℕ) → v < 256 ^ field_length f → v ≤ largest_of f
fits-largest Normal v h = omega arith
fits-largest Large v h = omega arith
