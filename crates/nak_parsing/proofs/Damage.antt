-- What the trailer is for: a packet that differs from an accepted one with a trailer in exactly one bit, wherever that is, is not accepted.
use mathlib.Core.Path.{◌≡◌, refl, sym, ap, ◌∙◌}
use mathlib.Core.Bool.{Bool, true, false, cond, true≢false}
use mathlib.Core.List.{List, [], ◌∷◌}
use Prim.Native.Nat.{ℕ, zero, suc, ◌+◌, ◌*◌, ◌-◌, ◌/◌, ◌%◌, ◌≤◌, ◌<◌}
use native.Mathlib.Nat.{div-div-eq-div-mul}
use native.Mathlib.Omega.{arith}
use lib.Dec.{eqb}
use lib.ListN.{take, drop}
use lib.Seq.{ext_get_or}
use borrow.Author.Tests.{eq-eqb, eqb-true, eqb-false}
use Rattle.octets.specs.Octets.{number, AllOctets}
use Rattle.octets.specs.Flag.{field_length}
use Rattle.octets.specs.declared.LargeFileFlag.{LargeFileFlag}
use Rattle.octets.specs.declared.LargeFileFlag.TheVariants.{Normal, Large}
use Rattle.crc.specs.Damage.{EndsInCrc, ends_in_crc, turned_over, DiffersAt, DiffersInOneBit}
use Rattle.crc.proofs.Tests.{below}
use Rattle.crc.proofs.Ends.{test_exactly}
use Rattle.crc.proofs.Detection.{one-bit-refused}
use Rattle.nak.specs.declared.Edition.{Edition}
use Rattle.nak.specs.declared.Edition.TheVariants.{Older, Newer}
use Rattle.nak.specs.Header.{fixed_bits0, fixed0, crc_bit, crc_flag_of}
use Rattle.nak_parsing.specs.Parser.{octet_at, packet_flag, packet_crc, trailer_in, field_length_in, length_field, wrong_trailer, read_outcome}
use Rattle.nak_parsing.proofs.Reading.{Shape, read_of}
use Rattle.nak_parsing.proofs.OctetsBack.{bits_right}

-- an accepted packet with the flag ends in its CRC
pub ends-accepted : (v : Edition) (p : List ℕ) → AllOctets p → Shape v p → packet_crc p ≡ true → EndsInCrc p
unfolding wrong_trailer
ends-accepted v p a s e = (test_exactly p a).0 (go (ends_in_crc p) refl s.trailer)
  where
    go : (t : Bool) → ends_in_crc p ≡ t → wrong_trailer p ≡ false → ends_in_crc p ≡ true
    go true w h = w
    go false w h = absurd (true≢false (rw (e, w) at h))

-- no single bit makes 41 of 42, or 40 of 43: all eight are tried
abbrev is : ℕ → ℕ → ℕ
is a b = cond (eqb a b) 1 0

never : (x y k : ℕ) → is (turned_over x k) y ≡ 0 → turned_over x k ≡ y → ⊥
never x y k z e = omega (arith, sym (ap (λ (t : Bool). cond t 1 0) (eq-eqb (turned_over x k) y e)) ∙ z)

not_41 : (k : ℕ) → k < 8 → turned_over 42 k ≡ 41 → ⊥
not_41 k h = never 42 41 k (below (λ (k : ℕ). is (turned_over 42 k) 41) (λ k. 0) 8 tt k h)

not_40 : (k : ℕ) → k < 8 → turned_over 43 k ≡ 40 → ⊥
not_40 k h = never 43 40 k (below (λ (k : ℕ). is (turned_over 43 k) 40) (λ k. 0) 8 tt k h)

-- so where a single bit takes the CRC flag away from octet 0, the large file flag stays
flag_kept : (v : Edition) (x y k : ℕ) → fixed_bits0 v x ≡ fixed0 v → fixed_bits0 v y ≡ fixed0 v → k < 8 → y ≡ turned_over x k
    → x / 2 % 2 ≡ 1 → y / 2 % 2 ≡ 0 → x % 2 ≡ y % 2
flag_kept Older x y k a b h e c d = omega (arith, a, b)
flag_kept Newer x y k a b h e c d = go (eqb (x % 2) (y % 2)) refl (eqb (x % 2) 0) refl
  where
    go : (t : Bool) → eqb (x % 2) (y % 2) ≡ t → (u : Bool) → eqb (x % 2) 0 ≡ u → x % 2 ≡ y % 2
    go true s u z = eqb-true (x % 2) (y % 2) s
    go false s true z =
        let n = eqb-false (x % 2) (y % 2) s in
        let o = eqb-true (x % 2) 0 z in
        let q : x / 2 / 2 ≡ x / 4 = div-div-eq-div-mul x 2 2 in
        let w : y / 2 / 2 ≡ y / 4 = div-div-eq-div-mul y 2 2 in
        let one : 42 ≡ x = omega (arith, a, n) in
        let two : y ≡ 41 = omega (arith, b, n) in
        absurd (not_41 k h (ap (λ (o : ℕ). turned_over o k) one ∙ sym e ∙ two))
    go false s false z =
        let n = eqb-false (x % 2) (y % 2) s in
        let o = eqb-false (x % 2) 0 z in
        let q : x / 2 / 2 ≡ x / 4 = div-div-eq-div-mul x 2 2 in
        let w : y / 2 / 2 ≡ y / 4 = div-div-eq-div-mul y 2 2 in
        let one : 43 ≡ x = omega (arith, a, n, o) in
        let two : y ≡ 40 = omega (arith, b, n, o) in
        absurd (not_40 k h (ap (λ (o : ℕ). turned_over o k) one ∙ sym e ∙ two))

-- with the same length field and the same field length, one of them has two octets too many
no_room : (g : LargeFileFlag) (len : ℕ) → 1 + 2 * field_length g ≤ len - 2 → (len - 2 - (1 + 2 * field_length g)) % (2 * field_length g) ≡ 0
    → (len - 0 - (1 + 2 * field_length g)) % (2 * field_length g) ≡ 0 → ⊥
no_room Normal len a b c = omega arith
no_room Large len a b c = omega arith

-- a list of octets whose other octets are the same has the same rest
same_rest : (k : ℕ) (p q : List ℕ) → DiffersAt 0 k p q → drop 1 q ≡ drop 1 p
same_rest k [] [] d = refl
same_rest k [] (y ∷ q) (l, o, s) = absurd (omega (arith, l))
same_rest k (x ∷ p) [] (l, o, s) = absurd (omega (arith, l))
same_rest k (x ∷ p) (y ∷ q) (l, o, s) = ext_get_or 0 q p (omega (arith, l)) (λ j h. s (suc j) (λ z. omega (arith, z)))

-- damage elsewhere leaves octet 0, and so the flag
same_flag : (i k : ℕ) (p q : List ℕ) → DiffersAt (suc i) k p q → packet_crc p ≡ packet_crc q
unfolding packet_crc
same_flag i k p q (l, o, s) = ap crc_flag_of (sym (s 0 (λ z. omega (arith, z))))

-- the flag that a packet has or has not, as its bit
bit_of : (o : ℕ) (t : Bool) → crc_flag_of o ≡ t → o / 2 % 2 ≡ crc_bit t
bit_of o true e = eqb-true (o / 2 % 2) 1 e
bit_of o false e = let n = eqb-false (o / 2 % 2) 1 e in omega (arith, n)

module _ (v : Edition) (p q : List ℕ) (s : Shape v p) (r : Shape v q) (with-crc : packet_crc p ≡ true) (without : packet_crc q ≡ false) where
  -- the bit that differs would be the CRC flag, and then the data field does not come out
  flag-lost : (k : ℕ) → k < 8 → DiffersAt 0 k p q → ⊥
  unfolding packet_crc packet_flag trailer_in length_field field_length_in
  flag-lost k h d =
      let x = octet_at p 0 in
      let y = octet_at q 0 in
      let kept = flag_kept v x y k (bits_right v x (octet_at p 3) s.fixed) (bits_right v y (octet_at q 3) r.fixed) h d.1 (bit_of x true with-crc) (bit_of y false without) in
      let g : packet_flag q ≡ packet_flag p = ap (λ (o : ℕ). cond (eqb o 0) Normal Large) (sym kept) in
      let l : length_field q ≡ length_field p = ap (λ (os : List ℕ). number (take 2 os)) (same_rest k p q d) in
      no_room (packet_flag p) (length_field p) (rw with-crc at s.room) (rw with-crc at s.whole) (rw (without, g, l) at r.whole)

  -- so the CRC flag does not differ
  flag-differs : DiffersInOneBit p q → ⊥
  flag-differs (i, k, h, b, d) = go i d
    where
      go : (i : ℕ) → DiffersAt i k p q → ⊥
      go zero d = flag-lost k b d
      go (suc i) d = true≢false (sym with-crc ∙ same_flag i k p q d ∙ without)

-- A packet that differs from an accepted one with a trailer in exactly one bit is not accepted.
pub damage_refused : (v : Edition) (p q : List ℕ) → AllOctets p → AllOctets q → (read_outcome v p).number ≡ 0 → packet_crc p ≡ true
    → DiffersInOneBit p q → (read_outcome v q).number ≡ 0 → ⊥
damage_refused v p q a b z e d y = go (packet_crc q) refl
  where
    s : Shape v p
    s = (read_of v p z).shape

    r : Shape v q
    r = (read_of v q y).shape

    go : (t : Bool) → packet_crc q ≡ t → ⊥
    go true w = one-bit-refused p q (ends-accepted v p a s e) d (ends-accepted v q b r w)
    go false w = flag-differs v p q s r e w d
