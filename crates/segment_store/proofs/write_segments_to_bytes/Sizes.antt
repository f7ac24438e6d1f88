-- The octets that the counted pairs take: few enough to count, and what the buffer is filled with.
use mathlib.Core.Path.{◌≡◌, sym, ap, ◌∙◌}
use mathlib.Core.List.{List}
use Prim.Native.Nat.{ℕ, ◌*◌, ◌≤◌}
use native.Mathlib.Nat.{mul_comm, mul_assoc, mul-le-mul_left}
use native.Mathlib.Omega.{arith}
use lib.ListN.{length, take}
use lib.Seq.{length-take-le}
use Rattle.ranges.specs.Store.{most_pairs}
use Rattle.octets.specs.declared.LargeFileFlag.{LargeFileFlag}
use Rattle.octets.specs.declared.LargeFileFlag.TheVariants.{Normal, Large}
use Rattle.octets.specs.Flag.{field_length}
use Rattle.octets.specs.Octets.{fields}
use Rattle.octets.proofs.Fields.{length_fields}

pub field_length_le : (flag : LargeFileFlag) → field_length flag ≤ 8
field_length_le Normal = omega arith
field_length_le Large = omega arith

pub few-octets : (n f : ℕ) → n ≤ most_pairs → f ≤ 8 → n * (2 * f) ≤ 65536
few-octets n f h k =
    let a : n * (2 * f) ≤ n * 16 = mul-le-mul_left n (omega arith) in
    omega arith

-- 2n fields of f octets
pub pair-octets : (n f : ℕ) → f * (2 * n) ≡ n * (2 * f)
pair-octets n f = sym (mul_assoc f 2 n) ∙ mul_comm (f * 2) n ∙ ap (λ (k : ℕ). n * k) (mul_comm f 2)

pub length-octets : (f n : ℕ) (xs : List ℕ) → 2 * n ≤ length xs → length (fields f (take (2 * n) xs)) ≡ n * (2 * f)
length-octets f n xs h = length_fields f (take (2 * n) xs) ∙ ap (λ (k : ℕ). f * k) (length-take-le (2 * n) xs h) ∙ pair-octets n f
