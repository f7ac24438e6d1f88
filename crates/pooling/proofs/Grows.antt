-- An event raises the number of ranges by at most one.
use mathlib.Core.Bool.{Bool, true, false}
use mathlib.Core.List.{List}
use Prim.Native.Nat.{ℕ, suc, ◌≤◌, ◌<◌, max}
use native.Mathlib.Omega.{arith}
use lib.ListN.{length}
use Rattle.ranges.specs.Range.{Range, Coalesced, last_end}
use Rattle.ranges.proofs.Without.{length_part}
use Rattle.reception.specs.Data.{data_ranges}
use Rattle.reception.specs.Eof.{eof_ranges}
use Rattle.reception.proofs.Keeping.{length-kept}
use Rattle.reception.proofs.eof.Tail.{tail-length}

pub data_grows : (m : Bool) (p a e : ℕ) (rs : List Range) → a < e → Coalesced rs → last_end rs ≤ p → length (data_ranges m p a e rs) ≤ suc (length rs)
data_grows true p a e rs lt s l = let k = length_part 0 (max p e) in omega (arith, k)
data_grows false p a e rs lt s l = length-kept p a e rs lt s l

pub eof_grows : (m : Bool) (p z : ℕ) (rs : List Range) → length (eof_ranges m p z rs) ≤ suc (length rs)
eof_grows true p z rs = let k = length_part 0 z in omega (arith, k)
eof_grows false p z rs = tail-length p z rs
