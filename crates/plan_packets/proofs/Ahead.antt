-- The requests in some octets, the first of them and those behind it; octets further on do not matter.
use mathlib.Core.Path.{◌≡◌, refl, sym, ap, ◌∙◌}
use mathlib.Core.List.{List, ◌∷◌, ◌++◌}
use Prim.Native.Nat.{ℕ, zero, suc, ◌+◌, ◌*◌, ◌/◌, ◌≤◌, ◌<◌}
use native.Mathlib.Numerals.{add-one}
use native.Mathlib.Nat.{mul-suc, div-eq-sub-div}
use native.Mathlib.Omega.{arith}
use lib.ListN.{length, take, drop, length-drop, take-append-drop}
use lib.Seq.{length-take-le}
use Rattle.std.proofs.lemmas.List.{take-append-le, drop-append-le}
use Rattle.ranges.specs.Range.{range}
use Rattle.nak_parsing.specs.Parser.{field_at, requests_in}

pub length-requests : (f n : ℕ) (os : List ℕ) → length (requests_in f n os) ≡ n
length-requests f zero os = refl
length-requests f (suc n) os = ap suc (length-requests f n (drop (2 * f) os))

-- a field that lies in the first octets
field-front : (f at : ℕ) (xs ys : List ℕ) → at + f ≤ length xs → field_at (xs ++ ys) at f ≡ field_at xs at f
field-front f at xs ys h =
    let d = length-drop at xs in
    rw (drop-append-le at xs ys (omega arith), take-append-le f (drop at xs) ys (omega arith))

pub requests-front : (f n : ℕ) (xs ys : List ℕ) → 2 * f * n ≤ length xs → requests_in f n (xs ++ ys) ≡ requests_in f n xs
requests-front f zero xs ys h = refl
requests-front f (suc n) xs ys h =
    let m : 2 * f * suc n ≡ 2 * f + 2 * f * n = rw mul-suc (omega arith) in
    let d = length-drop (2 * f) xs in
    rw (field-front f 0 xs ys (omega arith), field-front f f xs ys (omega arith), drop-append-le (2 * f) xs ys (omega arith), requests-front f n (drop (2 * f) xs) ys (omega arith))

-- as many as there is room for: the first, and those behind it
pub requests-more : (f : ℕ) (os : List ℕ) → 0 < f → 2 * f ≤ length os
    → requests_in f (length os / (2 * f)) os
    ≡ range (field_at (take (2 * f) os) 0 f) (field_at (take (2 * f) os) f f) ∷ requests_in f (length (drop (2 * f) os) / (2 * f)) (drop (2 * f) os)
requests-more f os p h =
    let l = length-take-le (2 * f) os h in
    let n : length os / (2 * f) ≡ suc (length (drop (2 * f) os) / (2 * f)) = div-eq-sub-div (omega arith) h ∙ rw (length-drop, add-one) in
    let a : (at : ℕ) → at + f ≤ 2 * f → field_at os at f ≡ field_at (take (2 * f) os) at f =
    λ at k. sym (ap (λ (u : List ℕ). field_at u at f) (take-append-drop (2 * f) os)) ∙ field-front f at (take (2 * f) os) (drop (2 * f) os) (omega arith) in
    rw (n, a 0 (omega arith), a f (omega arith))
