-- Flat lists and their pairs.
use mathlib.Core.Path.{◌≡◌, refl}
use mathlib.Core.List.{List, [], ◌∷◌}
use Prim.Native.Nat.{ℕ, zero, suc, ◌+◌, ◌*◌, ◌%◌, ◌≤◌, ◌<◌}
use native.Mathlib.Omega.{arith}
use lib.ListN.{length, get_or, drop}
use Rattle.std.specs.Simd.{first_chunks}
use Rattle.ranges.specs.Range.{range}
use Rattle.ranges.specs.Store.{pairs, flat}

-- a list of one number, or none, has no pair
pub pairs-short : (xs : List ℕ) → length xs ≤ 1 → pairs xs ≡ []
pairs-short [] h = refl
pairs-short (x ∷ []) h = refl
pairs-short (x ∷ y ∷ xs) h = absurd (omega arith)

-- the pair at place i, as the list's chunks of two have it, and those behind it
pub chunk-turn : (xs : List ℕ) (k i : ℕ) → i < k → 2 * k ≤ length xs
    → pairs (drop (2 * i) xs) ≡ range (get_or (get_or (first_chunks 2 k xs) i []) 0 0) (get_or (get_or (first_chunks 2 k xs) i []) 1 0) ∷ pairs (drop (2 * (i + 1)) xs)
chunk-turn [] k i h l = absurd (omega arith)
chunk-turn (x ∷ []) k i h l = absurd (omega arith)
chunk-turn (x ∷ y ∷ xs) zero i h l = absurd (omega arith)
chunk-turn (x ∷ y ∷ xs) (suc k) zero h l = refl
chunk-turn (x ∷ y ∷ xs) (suc k) (suc i) h l =
    let e : 2 * suc i ≡ suc (suc (2 * i)) = omega arith in
    let f : 2 * (suc i + 1) ≡ suc (suc (2 * (i + 1))) = omega arith in
    rw (e, f) (chunk-turn xs k i (omega arith) (omega arith))

-- a flat list of even length is that of its pairs
pub flat-pairs : (xs : List ℕ) → length xs % 2 ≡ 0 → flat (pairs xs) ≡ xs
flat-pairs [] h = refl
flat-pairs (x ∷ []) h = absurd (omega arith)
flat-pairs (x ∷ y ∷ xs) h = rw (flat-pairs xs (omega arith))
