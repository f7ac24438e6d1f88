-- One turn of the loop over the octets, and its end.
use mathlib.Core.Path.{◌≡◌, refl, sym, ◌∙◌}
use mathlib.Core.Bool.{Bool, true, false}
use mathlib.Core.List.{List, [], ◌∷◌, ◌++◌}
use Prim.Native.Nat.{ℕ, suc, ◌+◌, ◌-◌, ◌≤◌, ◌<◌, min}
use native.Mathlib.Numerals.{add-one}
use native.Mathlib.Omega.{arith}
use lib.ListN.{length, take, drop, get_or, length-take, length-drop, drop_of_length-le}
use lib.Dec.{leb}
use borrow.Author.Tests.{leb-true, leb-false}
use Rattle.std.proofs.lemmas.List.{take_min}
use lib.Seq.{drop-cons}
use Rattle.crc.specs.Crc.{bits_of, message, divided, shifted}

-- a message in two parts
pub divided-append : (r : ℕ) (xs ys : List ℕ) → divided r (xs ++ ys) ≡ divided (divided r xs) ys
unfolding shifted
divided-append r [] ys = refl
divided-append r (x ∷ xs) ys = divided-append (shifted r x) xs ys

-- the octets in the places from i up to `to`
abbrev pub between : ℕ → ℕ → List ℕ → List ℕ
between i to os = take (to - i) (drop i os)

-- no octet is left where there is none to begin with, or none is wanted
between_none : (i to : ℕ) (os : List ℕ) → min to (length os) ≤ i → between i to os ≡ []
between_none i to os h = empty (between i to os) (rw (length-take (to - i) (drop i os), length-drop i os) (omega arith))
  where
    empty : (xs : List ℕ) → length xs ≡ 0 → xs ≡ []
    empty [] e = refl
    empty (x ∷ xs) e = absurd (omega arith)

-- the same octets by places that lie within the list
pub between_within : (i to p m : ℕ) (os : List ℕ) → m ≡ min to (length os) → p ≡ min i m → between p m os ≡ between i to os
between_within i to p m os e f = go (leb i m) refl
  where
    go : (t : Bool) → leb i m ≡ t → between p m os ≡ between i to os
    go true h =
        let k : i ≤ m = leb-true i m h in
        let a : p ≡ i = omega arith in
        let n : m - i ≡ min (to - i) (length (drop i os)) = rw (length-drop i os) (omega arith) in
        rw (a, n) (take_min (to - i) (drop i os))
    go false h =
        let k : m < i = leb-false i m h in
        between_none p m os (omega arith) ∙ sym (between_none i to os (omega arith))

-- one octet is taken in
pub turn : (r i : ℕ) (os : List ℕ) → i < length os → divided (divided r (bits_of (get_or os i 0))) (message (drop (i + 1) os)) ≡ divided r (message (drop i os))
turn r i os h = rw (drop-cons os i 0 h, add-one i) (sym (divided-append r (bits_of (get_or os i 0)) (message (drop (suc i) os))))

-- at the end no octet is left
pub end : (r i : ℕ) (os : List ℕ) → length os ≤ i → divided r (message (drop i os)) ≡ r
end r i os h = rw (drop_of_length-le os h) refl
