-- One turn of each loop of the crate.
use mathlib.Core.Bool.{Bool, true, false}
use lib.Dec.{eqb}
use borrow.Author.Tests.{eq-eqb, ne_eqb, ltb-true, ltb-false, lt-ltb}
use mathlib.Core.Path.{refl, sym, ap, ◌≡◌, ap₂, ◌∙◌}
use mathlib.Core.List.{List, ◌∷◌, ◌++◌, append_assoc, append-nil}
use Prim.Native.Nat.{ℕ, zero, suc, ◌+◌, ◌*◌, ◌/◌, ◌%◌, ◌^◌, ◌≤◌, ◌<◌}
use native.Mathlib.Nat.{add-zero, add-suc, pow-suc, pow-le-pow_right, mul-suc, mul-le-mul_left, one-le-pow, div-eq_of_lt, lt-div-mul-add, lt_irrefl}
use native.Mathlib.Nat.{lt_of_lt_of_le, zero-mul, zero-add}
use native.Mathlib.Numerals.{add-one}
use native.Mathlib.Omega.{arith}
use lib.ListN.{length, get_or, take, drop, set, length-set, take-append-drop}
use lib.Seq.{drop-cons, length-take-le, take-set-le, drop-set-lt, get_or-set_same}
use Rattle.std.proofs.lemmas.Nat.{pow-add}
use Rattle.std.proofs.lemmas.List.{take_more}
use Rattle.octets.specs.Octets.{field, fields, fits, number, with_octets}
use Rattle.octets.proofs.Fields.{length-field, number_snoc, length_fields, fields-append}
use Rattle.octets.proofs.Over.{over-join}

-- what `put` leaves, with f octets of v still to come
abbrev pub putting : List ℕ → ℕ → ℕ → ℕ → List ℕ
putting xs at f v = take at xs ++ field f v ++ drop (at + f) xs

pub put_whole : (xs : List ℕ) (at f v : ℕ) → putting xs at f v ≡ with_octets xs at (field f v)
unfolding with_octets
put_whole xs at f v = rw (length-field f v)

pub put-none : (xs : List ℕ) (at v : ℕ) → xs ≡ putting xs at 0 v
put-none xs at v = rw (append-nil, add-zero, take-append-drop)

-- one octet, from the last on
pub put-turn : (xs : List ℕ) (at f v : ℕ) → at + f < length xs → putting (set xs (at + f) (v % 256)) at f (v / 256) ≡ putting xs at (suc f) v
put-turn xs at f v h =
    let d : drop (at + f) (set xs (at + f) (v % 256)) ≡ v % 256 ∷ drop (at + suc f) xs =
    drop-cons (set xs (at + f) (v % 256)) (at + f) 0 (rw length-set h) ∙ ap₂ (λ (x : ℕ) (l : List ℕ). x ∷ l) (get_or-set_same xs (at + f) (v % 256) 0 h)
    (drop-set-lt (suc (at + f)) xs (at + f) (v % 256) (omega arith) ∙ rw add-suc) in
    rw (take-set-le at xs (at + f) (v % 256) (omega arith), d) (simp append_assoc)

-- one octet more is got
pub get_turn : (os : List ℕ) (i : ℕ) → i < length os → number (take i os) * 256 + get_or os i 0 ≡ number (take (i + 1) os)
get_turn os i h = rw (take_more os i 0 h, number_snoc (take i os)) refl

-- a number of i octets and one octet more make a number of i + 1
pub room : (i v o : ℕ) → v < 256 ^ i → o < 256 → v * 256 + o < 256 ^ (i + 1)
room i v o k m = rw (add-one, pow-suc) (omega arith)

-- one number more is put
pub put-all-turn : (xs vs : List ℕ) (at f i : ℕ) → at + (f * i + f) ≤ length xs → i < length vs
    → with_octets (with_octets xs at (fields f (take i vs))) (at + f * i) (field f (get_or vs i 0)) ≡ with_octets xs at (fields f (take (i + 1) vs))
put-all-turn xs vs at f i h k =
    let n : length (take i vs) ≡ i = length-take-le i vs (omega arith) in
    let l : length (fields f (take i vs)) ≡ f * i = rw n at (length_fields f (take i vs)) in
    let e : fields f (take (i + 1) vs) ≡ fields f (take i vs) ++ field f (get_or vs i 0) = rw (take_more vs i 0 k, fields-append f (take i vs), append-nil) refl in
    over-join xs at (at + f * i) (fields f (take i vs)) (field f (get_or vs i 0)) (omega arith) (omega arith) ∙ ap (λ (os : List ℕ). with_octets xs at os) (sym e)

-- the octets of n numbers leave room for the one at i
pub room-all : (f i n : ℕ) → i < n → f * i + f ≤ f * n
room-all f i n h = rw mul-suc at (mul-le-mul_left {m = suc i} {n = n} f h)

-- the bits of f octets
pub octet-bits : (f : ℕ) → 2 ^ (8 * f) ≡ 256 ^ f
octet-bits zero = refl
octet-bits (suc f) = rw (mul-suc, pow-add, octet-bits f) (sym (pow-suc 256 f))

-- a number fits if nothing is left of it
pub fits_if_none : (f v : ℕ) → eqb (v / 256 ^ f) 0 ≡ fits f v
fits_if_none f v = go (fits f v) refl
  where
    pos : 0 < 256 ^ f
    pos = one-le-pow f 256 (omega arith)

    go : (t : Bool) → fits f v ≡ t → eqb (v / 256 ^ f) 0 ≡ t
    go true e = eq-eqb (v / 256 ^ f) 0 (div-eq_of_lt (ltb-true v (256 ^ f) e))
    go false e = ne_eqb (v / 256 ^ f) 0 λ z. let k = lt-div-mul-add {a = v} {b = 256 ^ f} pos in let m = ltb-false v (256 ^ f) e in lt_irrefl v (lt_of_lt_of_le (rw (z, zero-mul, zero-add) at k) m)

-- eight octets or more fit every number of 64 bits
pub eight_fit : (f v : ℕ) → 8 ≤ f → v < 18446744073709551616 → fits f v ≡ true
eight_fit f v h k =
    let p : 256 ^ 8 ≤ 256 ^ f = pow-le-pow_right {n = 256} (omega arith) {i = 8} {j = f} h in
    lt-ltb v (256 ^ f) (omega arith)
