-- The pairs of a flat list as arrays of two.
use mathlib.Core.Path.{◌≡◌, refl, ap}
use mathlib.Core.List.{List, [], ◌∷◌}
use Prim.Native.Nat.{ℕ, zero, suc, ◌*◌, ◌≤◌}
use native.Mathlib.Omega.{arith}
use lib.ListN.{length, take}
use Rattle.std.specs.Prelude.{map}
use Rattle.std.specs.Simd.{first_chunks}
use Rattle.ranges.specs.Store.{counted}
use Rattle.ranges.proofs.Flat.{counted-suc}
use Rattle.lists.specs.Pairs.{pair_of}

pub chunks_counted : (xs : List ℕ) (n m : ℕ) → n ≤ m → 2 * n ≤ length xs → take n (first_chunks 2 m xs) ≡ map pair_of (counted xs n)
chunks_counted xs zero m h k = refl
chunks_counted xs (suc n) zero h k = absurd (omega arith)
chunks_counted [] (suc n) (suc m) h k = absurd (omega arith)
chunks_counted (x ∷ []) (suc n) (suc m) h k = absurd (omega arith)
chunks_counted (x ∷ y ∷ xs) (suc n) (suc m) h k = rw (counted-suc x y xs n) (ap (λ (ps : List (List ℕ)). (x ∷ y ∷ []) ∷ ps) (chunks_counted xs n m (omega arith) (omega arith)))
