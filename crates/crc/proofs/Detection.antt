-- What the trailer is for: octets that differ in exactly one bit never have the same CRC; and where octets end in their CRC, no
-- octets that differ from them in exactly one bit do, wherever the bit is.
use mathlib.Core.Path.{◌≡◌, refl, sym, ap, ◌∙◌}
use mathlib.Core.List.{List, [], ◌∷◌, ◌++◌}
use mathlib.Core.Bool.{Bool, true, false}
use Prim.Native.Nat.{ℕ, suc, ◌+◌, ◌*◌, ◌/◌, ◌%◌, ◌^◌, ◌≤◌, ◌<◌}
use native.Mathlib.Nat.{pow-le-pow_right, one-le-pow}
use native.Mathlib.Omega.{arith}
use borrow.Author.Tests.{eqb-true, eqb-false}
use lib.Dec.{eqb}
use lib.ListN.{length, get_or, take, drop, set, length-set}
use lib.Seq.{ext_get_or, split_at, set_split, get_or-set_same, get_or-set_other}
use lib.Bits.{bit_xor, xor_self, xor_lt, xor_zero_l}
use Rattle.octets.specs.Octets.{AllOctets}
use Rattle.crc.specs.Crc.{preset, message, divided, crc_of}
use Rattle.crc.specs.Damage.{EndsInCrc, ends_in_crc, turned_over, DiffersAt, DiffersInOneBit}
use Rattle.crc.proofs.Xor.{xor_assoc, xor_same}
use Rattle.crc.proofs.Binary.{binary_message}
use Rattle.crc.proofs.Injective.{divided_injective}
use Rattle.crc.proofs.Linear.{divided_lt, octetwise, linear}
use Rattle.crc.proofs.Quick.{cancels}
use Rattle.crc.proofs.Trailer.{in_parts, crc_lt, own-octets}
use Rattle.crc.proofs.Ends.{ends_in_zero, test_exactly}

-- damage that does not show: as octets of its own, it takes the remainder 0 to 0
pub unseen : (xs ds es ys : List ℕ) → length ds ≡ length es → crc_of (xs ++ (ds ++ ys)) ≡ crc_of (xs ++ (es ++ ys))
    → divided 0 (message (octetwise ds es)) ≡ 0
unseen xs ds es ys l e =
    ap (λ (s : ℕ). divided s (message (octetwise ds es))) (sym (xor_self r)) ∙ linear ds es r r l (crc_lt xs) (crc_lt xs)
    ∙ ap (λ (s : ℕ). bit_xor s (divided r (message es))) same ∙ xor_self (divided r (message es))
  where
    r : ℕ
    r = crc_of xs

    parts : (os : List ℕ) → crc_of (xs ++ (os ++ ys)) ≡ divided (divided r (message os)) (message ys)
    parts os = in_parts preset xs (os ++ ys) ∙ in_parts r os ys

    same : divided r (message ds) ≡ divided r (message es)
    same =
        divided_injective (message ys) (divided r (message ds)) (divided r (message es)) (binary_message ys)
        (divided_lt (message ds) r (crc_lt xs)) (divided_lt (message es) r (crc_lt xs)) (sym (parts ds) ∙ e ∙ parts es)

-- two octets that take the remainder 0 to 0 are both 0
none_but_zeros : (y z : ℕ) → y < 256 → z < 256 → divided 0 (message (y ∷ z ∷ [])) ≡ 0 → (y ≡ 0) × (z ≡ 0)
none_but_zeros y z hy hz e =
    let w = y * 256 + z in
    let hw : w < 2 ^ 16 = omega arith in
    let wy : w / 256 ≡ y = omega arith in
    let wz : w % 256 ≡ z = omega arith in
    let own : divided w (message (y ∷ z ∷ [])) ≡ 0 = rw (wy, wz) at (own-octets w hw) in
    let k : 0 ≡ w = divided_injective (message (y ∷ z ∷ [])) 0 w (binary_message (y ∷ z ∷ [])) (omega arith) hw (e ∙ sym own) in
    (omega arith, omega arith)

-- so damage within two neighbouring octets always shows
pub two_octets_seen : (xs ys : List ℕ) (a b c d : ℕ) → a < 256 → b < 256 → c < 256 → d < 256
    → crc_of (xs ++ (a ∷ b ∷ ys)) ≡ crc_of (xs ++ (c ∷ d ∷ ys)) → (a ≡ c) × (b ≡ d)
two_octets_seen xs ys a b c d ha hb hc hd e =
    let z = none_but_zeros (bit_xor a c) (bit_xor b d) (xor_lt 8 a c ha hc) (xor_lt 8 b d hb hd) (unseen xs (a ∷ b ∷ []) (c ∷ d ∷ []) ys refl e) in
    (xor_same a c z.0, xor_same b d z.1)

-- and so does another octet, of which at most the low eight bits are another
one_octet : (xs ys : List ℕ) (x y : ℕ) → bit_xor x y < 256 → crc_of (xs ++ x ∷ ys) ≡ crc_of (xs ++ y ∷ ys) → bit_xor x y ≡ 0
one_octet xs ys x y h e =
    let z = bit_xor x y in
    let first : divided 0 (message (z ∷ [])) ≡ 0 = unseen xs (x ∷ []) (y ∷ []) ys refl e in
    let k : 0 ≡ z * 256 = divided_injective (message (z ∷ [])) 0 (z * 256) (binary_message (z ∷ [])) (omega arith) (omega arith) (first ∙ sym (cancels z h)) in
    omega arith

-- an octet and the octet with one bit turned over have that bit between them
one-bit-between : (o k : ℕ) → bit_xor o (turned_over o k) ≡ 2 ^ k
one-bit-between o k = sym (xor_assoc o o (2 ^ k)) ∙ ap (λ (x : ℕ). bit_xor x (2 ^ k)) (xor_self o) ∙ xor_zero_l (2 ^ k)

-- the second list is the first with that octet put in
put_in : (i k : ℕ) (p q : List ℕ) → i < length p → DiffersAt i k p q → q ≡ set p i (turned_over (get_or p i 0) k)
put_in i k p q h (l, o, others) = ext_get_or 0 q (set p i y) (l ∙ sym (length-set p i y)) at
  where
    y : ℕ
    y = turned_over (get_or p i 0) k

    at : (j : ℕ) → j < length q → get_or q j 0 ≡ get_or (set p i y) j 0
    at j b = go (eqb j i) refl
      where
        go : (t : Bool) → eqb j i ≡ t → get_or q j 0 ≡ get_or (set p i y) j 0
        go true e = rw (eqb-true j i e) (o ∙ sym (get_or-set_same p i y 0 h))
        go false e = others j (eqb-false j i e) ∙ sym (get_or-set_other p i j y 0 (eqb-false j i e))

-- each bit of each octet can be turned over
pub turned : (p : List ℕ) (i k : ℕ) → i < length p → k < 8 → DiffersInOneBit p (set p i (turned_over (get_or p i 0) k))
turned p i k h b =
    let y = turned_over (get_or p i 0) k in
    (i, k, h, b, (length-set p i y, get_or-set_same p i y 0 h, λ j n. get_or-set_other p i j y 0 n))

-- octets that differ in exactly one bit have different CRCs
pub one-bit_seen : (p q : List ℕ) → DiffersInOneBit p q → crc_of p ≡ crc_of q → ⊥
one-bit_seen p q (i, k, h, b, d) e =
    let x = get_or p i 0 in
    let xs = take i p in
    let ys = drop (suc i) p in
    let one : bit_xor x (turned_over x k) ≡ 2 ^ k = one-bit-between x k in
    let small : 2 ^ k ≤ 2 ^ 7 = pow-le-pow_right {n = 2} (omega arith) {i = k} {j = 7} (omega arith) in
    let some : 1 ≤ 2 ^ k = one-le-pow k 2 (omega arith) in
    let first : p ≡ xs ++ x ∷ ys = split_at p i 0 h in
    let second : q ≡ xs ++ turned_over x k ∷ ys = put_in i k p q h d ∙ set_split p i (turned_over x k) h in
    let zero : bit_xor x (turned_over x k) ≡ 0 = one_octet xs ys x (turned_over x k) (rw one (omega arith)) (sym (ap crc_of first) ∙ e ∙ ap crc_of second) in
    omega (arith, sym one ∙ zero, some)

-- and its consequence: a packet that ends in its CRC and has one bit turned over, in the trailer too, no longer does
pub one-bit-refused : (p q : List ℕ) → EndsInCrc p → DiffersInOneBit p q → EndsInCrc q → ⊥
one-bit-refused p q a d b = one-bit_seen p q d (ends_in_zero p a ∙ sym (ends_in_zero q b))

-- so `ends_in_crc` says no to it
pub one-bit_no : (p q : List ℕ) → EndsInCrc p → DiffersInOneBit p q → AllOctets q → ends_in_crc q ≡ false
one-bit_no p q a d o = go (ends_in_crc q) refl
  where
    go : (t : Bool) → ends_in_crc q ≡ t → ends_in_crc q ≡ false
    go true e = absurd (one-bit-refused p q a d ((test_exactly q o).0 e))
    go false e = e
