-- The laws of big-endian fields, over the field's length: what is put is got back, and what is got is put back.
use mathlib.Core.Path.{◌≡◌, refl, ap, ◌∙◌}
use mathlib.Core.List.{List, [], ◌∷◌, ◌++◌, append_assoc}
use Prim.Native.Nat.{ℕ, zero, suc, ◌+◌, ◌*◌, ◌/◌, ◌%◌, ◌^◌, ◌≤◌, ◌<◌}
use native.Mathlib.Nat.{mul-suc, mul_assoc, add-mul, pow-suc, mod-lt, mod-eq_of_lt, div-add-mod', div-lt_iff_lt-mul, mul-add-div_right, mul-add-mod_self_right, mul-le-mul_right}
use native.Mathlib.Omega.{arith}
use lib.ListN.{length, get_or, take, drop, length-append}
use Rattle.octets.specs.Octets.{field, fields, number, AllOctets}

-- a field of f octets is f octets long
pub length-field : (f v : ℕ) → length (field f v) ≡ f
length-field zero v = refl
length-field (suc f) v = rw (length-append (field f (v / 256)), length-field f (v / 256)) (omega arith)

-- the octets of n numbers, f octets each, are f times n
pub length_fields : (f : ℕ) (vs : List ℕ) → length (fields f vs) ≡ f * length vs
length_fields f [] = omega arith
length_fields f (v ∷ vs) = rw (length-append (field f v), length-field f v, length_fields f vs, mul-suc) (omega arith)

-- the octets of two lists joined
pub fields-append : (f : ℕ) (vs ws : List ℕ) → fields f (vs ++ ws) ≡ fields f vs ++ fields f ws
fields-append f [] ws = refl
fields-append f (v ∷ vs) ws = rw (append_assoc, fields-append f vs ws)

-- octets joined are octets
pub octets-append : (xs ys : List ℕ) → AllOctets xs → AllOctets ys → AllOctets (xs ++ ys)
octets-append [] ys a b = b
octets-append (x ∷ xs) ys (h, a) b = (h, octets-append xs ys a b)

-- a field consists of octets
pub octets-field : (f v : ℕ) → AllOctets (field f v)
octets-field zero v = tt
octets-field (suc f) v = octets-append (field f (v / 256)) (v % 256 ∷ []) (octets-field f (v / 256)) (mod-lt v (omega arith), tt)

pub octets-fields : (f : ℕ) (vs : List ℕ) → AllOctets (fields f vs)
octets-fields f [] = tt
octets-fields f (v ∷ vs) = octets-append (field f v) (fields f vs) (octets-field f v) (octets-fields f vs)

-- one octet more at the end
pub number_snoc : (os : List ℕ) (o : ℕ) → number (os ++ (o ∷ [])) ≡ number os * 256 + o
number_snoc [] o = omega arith
number_snoc (x ∷ os) o =
    let e : length (os ++ (o ∷ [])) ≡ suc (length os) = length-append os (o ∷ []) ∙ omega arith in
    rw (e, number_snoc os o, pow-suc, add-mul, mul_assoc x) (omega arith)

-- a number of n octets is below 256 to the power of n
pub number-below : (os : List ℕ) → AllOctets os → number os < 256 ^ length os
number-below [] a = omega arith
number-below (o ∷ os) (h, a) =
    let k = number-below os a in
    let m : o * 256 ^ length os ≤ 255 * 256 ^ length os = mul-le-mul_right (256 ^ length os) (omega arith) in
    rw pow-suc (omega arith)

-- a number that fits one octet more has a quotient that fits
pub quotient_below : (f v : ℕ) → v < 256 ^ suc f → v / 256 < 256 ^ f
quotient_below f v h = (div-lt_iff_lt-mul {k = 256} {x = v} {y = 256 ^ f} (omega arith)).1 (rw pow-suc at h)

-- got after put: a number that fits its field comes back
pub got_put : (f v : ℕ) → v < 256 ^ f → number (field f v) ≡ v
got_put zero v h = omega arith
got_put (suc f) v h =
    rw (number_snoc (field f (v / 256)), got_put f (v / 256) (quotient_below f v h)) (div-add-mod' v 256)

-- the first octet of a field
pub field_cons : (n o m : ℕ) → o < 256 → m < 256 ^ n → field (suc n) (o * 256 ^ n + m) ≡ o ∷ field n m
field_cons zero o m h k =
    let e : o * 1 + m ≡ o = omega arith in
    rw e (rw (mod-eq_of_lt h))
field_cons (suc n) o m h k =
    let p : o * 256 ^ suc n + m ≡ o * 256 ^ n * 256 + m = rw (pow-suc, mul_assoc) in
    let q = quotient_below n m k in
    let d : (o * 256 ^ n * 256 + m) / 256 ≡ o * 256 ^ n + m / 256 = mul-add-div_right (omega arith) (o * 256 ^ n) m in
    let r : (o * 256 ^ n * 256 + m) % 256 ≡ m % 256 = mul-add-mod_self_right (o * 256 ^ n) 256 m in
    rw (p, d, r) (ap (λ (l : List ℕ). l ++ (m % 256 ∷ [])) (field_cons n o (m / 256) h q))

-- put after got: octets come back from the number that they hold
pub put_got : (os : List ℕ) → AllOctets os → field (length os) (number os) ≡ os
put_got [] a = refl
put_got (o ∷ os) (h, a) = field_cons (length os) o (number os) h (number-below os a) ∙ ap (λ (l : List ℕ). o ∷ l) (put_got os a)

-- a list whose every element is below 256
pub octets-all : (os : List ℕ) → ((i : ℕ) → get_or os i 0 < 256) → AllOctets os
octets-all [] h = tt
octets-all (o ∷ os) h = (h 0, octets-all os (λ i. h (suc i)))

-- parts of octets are octets
pub octets-take : (n : ℕ) (os : List ℕ) → AllOctets os → AllOctets (take n os)
octets-take zero os a = tt
octets-take (suc n) [] a = tt
octets-take (suc n) (o ∷ os) (h, a) = (h, octets-take n os a)

pub octets-drop : (n : ℕ) (os : List ℕ) → AllOctets os → AllOctets (drop n os)
octets-drop zero os a = a
octets-drop (suc n) [] a = tt
octets-drop (suc n) (o ∷ os) (h, a) = octets-drop n os a
