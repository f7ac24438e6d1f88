-- Writing what was read: every octet of an accepted packet comes back.
use mathlib.Core.Path.{◌≡◌, refl, sym, ap, ◌∙◌}
use mathlib.Core.Bool.{Bool, true, false, not, cond, true≢false}
use mathlib.Core.List.{List, [], ◌∷◌, ◌++◌, append_assoc}
use Prim.Native.Nat.{ℕ, zero, suc, ◌+◌, ◌*◌, ◌-◌, ◌/◌, ◌%◌, ◌^◌, ◌≤◌, ◌<◌}
use native.Mathlib.Nat.{mod-eq_of_lt, zero-mul, suc-mul, div-div-eq-div-mul}
use native.Mathlib.Omega.{arith}
use lib.Dec.{eqb}
use lib.ListN.{length, get_or, take, drop, length-drop, length-append, take-append-drop}
use lib.Seq.{drop-cons, drop-drop, drop-length, take_at, drop_at, length-take-le}
use borrow.Author.Tests.{eqb-true, eqb-false, not-false}
use Rattle.ranges.proofs.Test.{or_false}
use Rattle.ranges.proofs.Flat.{length-flat}
use Rattle.ranges.specs.Store.{flat}
use Rattle.octets.specs.Octets.{field, fields, AllOctets}
use Rattle.octets.specs.Flag.{field_length}
use Rattle.octets.specs.declared.LargeFileFlag.{LargeFileFlag}
use Rattle.octets.specs.declared.LargeFileFlag.TheVariants.{Normal, Large}
use Rattle.octets.proofs.Fields.{put_got, number-below, octets-take, octets-drop}
use Rattle.nak.specs.declared.Edition.{Edition}
use Rattle.nak.specs.declared.Edition.TheVariants.{Older, Newer}
use Rattle.nak.specs.Header.{wrong_fixed, fixed0, fixed_bits0, fixed_bits3, crc_bit, octet0, octet3, is_reserved_set, flag_of, crc_flag_of, form_of, entity_length_of, number_length_of}
use Rattle.crc.specs.Crc.{crc_of, trailer as crc_trailer}
use Rattle.crc.specs.Damage.{EndsInCrc, ends_in_crc}
use Rattle.crc.proofs.Ends.{test_exactly}
use Rattle.nak.specs.Pdu.{nak_code, header_octets, identity_octets, data_octets, data_field, trailer_length, front, trailer, pdu}
use Rattle.nak.proofs.Parts.{length_data, pdu_parts}
use Rattle.nak_parsing.specs.Parser.{octet_at, field_at, packet_flag, packet_crc, trailer_in, packet_form, field_length_in, entity_length_in, number_length_in, header_length_in, length_field}
use Rattle.nak_parsing.specs.Parser.{scope_at, requests_at, requests_end, requests_in, packet_identity, scope_in, packet_requests, nak_in, wrong_trailer}
use Rattle.nak_parsing.proofs.Reading.{Read, header_is}

-- an octet of octets is below 256
pub octet_low : (p : List ℕ) (k : ℕ) → AllOctets p → get_or p k 0 < 256
octet_low [] k a = omega arith
octet_low (o ∷ p) zero (h, a) = h
octet_low (o ∷ p) (suc k) (h, a) = octet_low p k a

-- the field of the number in f octets is these octets
pub part_forth : (p : List ℕ) (at f : ℕ) → AllOctets p → at + f ≤ length p → field f (field_at p at f) ≡ take f (drop at p)
part_forth p at f a h =
    let d = length-drop at p in
    let l : length (take f (drop at p)) ≡ f = length-take-le f (drop at p) (omega arith) in
    rw l at (put_got (take f (drop at p)) (octets-take f (drop at p) (octets-drop at p a)))

-- and it is a number of f octets
pub part_low : (p : List ℕ) (at f : ℕ) → AllOctets p → at + f ≤ length p → field_at p at f < 256 ^ f
part_low p at f a h =
    let d = length-drop at p in
    let l : length (take f (drop at p)) ≡ f = length-take-le f (drop at p) (omega arith) in
    rw l at (number-below (take f (drop at p)) (octets-take f (drop at p) (octets-drop at p a)))

-- a part, and what stands behind it
pub join_forth : (p : List ℕ) (at f m : ℕ) → at + f ≡ m → take f (drop at p) ++ drop m p ≡ drop at p
join_forth p at f m e = rw (← e, ← drop-drop f at p) (take-append-drop f (drop at p))

-- the two together: a field read, and what stands behind it
field_forth : (p : List ℕ) (at f m : ℕ) {z : List ℕ} → AllOctets p → at + f ≡ m → m ≤ length p → z ≡ drop m p → field f (field_at p at f) ++ z ≡ drop at p
field_forth p at f m a e h g = rw (part_forth p at f a (omega arith), g) (join_forth p at f m e)

-- an octet read, and what stands behind it
octet_forth : (p : List ℕ) (at m o : ℕ) {z : List ℕ} → AllOctets p → o ≡ octet_at p at → suc at ≡ m → m ≤ length p → z ≡ drop m p → field 1 o ++ z ≡ drop at p
octet_forth p at m o a e h k g =
    let l = octet_low p at a in
    let q : o % 256 ≡ get_or p at 0 = mod-eq_of_lt (omega arith) ∙ e in
    rw (g, q, ← h) (sym (drop-cons p at 0 (omega arith)))

pub length-requests_in : (f k : ℕ) (os : List ℕ) → length (requests_in f k os) ≡ k
length-requests_in f zero os = refl
length-requests_in f (suc k) os = ap suc (length-requests_in f k (drop (2 * f) os))

-- the octets of the requests come back, before what stands behind them
pub requests_forth : (f k : ℕ) (os : List ℕ) → AllOctets os → k * (2 * f) ≤ length os
    → fields f (flat (requests_in f k os)) ++ drop (k * (2 * f)) os ≡ os
requests_forth f zero os a h = rw (zero-mul (2 * f))
requests_forth f (suc k) os a h =
    let l = rw suc-mul at h in
    let d = length-drop (2 * f) os in
    let t = requests_forth f k (drop (2 * f) os) (octets-drop (2 * f) os a) (omega arith) in
    let m : 2 * f + k * (2 * f) ≡ suc k * (2 * f) = rw suc-mul (omega arith) in
    let b : drop (k * (2 * f)) (drop (2 * f) os) ≡ drop (suc k * (2 * f)) os = drop-drop (k * (2 * f)) (2 * f) os ∙ ap (λ (n : ℕ). drop n os) m in
    let e = field_forth os f f (2 * f) a (omega arith) (omega arith) (rw b at t) in
    simp append_assoc (field_forth os 0 f f a (omega arith) (omega arith) e)

-- the fixed bits of octet 0
pub bits_right : (v : Edition) (o0 o3 : ℕ) → wrong_fixed v o0 o3 ≡ false → fixed_bits0 v o0 ≡ fixed0 v
unfolding wrong_fixed
bits_right v o0 o3 e = eqb-true (fixed_bits0 v o0) (fixed0 v) (not-false _ (or_false (not (eqb (fixed_bits0 v o0) (fixed0 v))) _ e).0)

-- octet 0 is that of the form that it says, and no reserved bit of it is set
form_forth : (v : Edition) (o0 o3 : ℕ) → wrong_fixed v o0 o3 ≡ false → (octet0 (form_of v o0) ≡ o0) × (is_reserved_set v (flag_of o0) ≡ false)
form_forth v o0 o3 e = go v (bits_right v o0 o3 e) (eqb (o0 % 2) 0) refl
  where
    bit-forth : crc_bit (crc_flag_of o0) ≡ o0 / 2 % 2
    bit-forth = of (eqb (o0 / 2 % 2) 1) refl
      where
        of : (t : Bool) → eqb (o0 / 2 % 2) 1 ≡ t → crc_bit t ≡ o0 / 2 % 2
        of true h = sym (eqb-true (o0 / 2 % 2) 1 h)
        of false h = let k = eqb-false (o0 / 2 % 2) 1 h in omega arith

    quarters : o0 ≡ o0 / 4 * 4 + o0 / 2 % 2 * 2 + o0 % 2
    quarters = let d : o0 / 2 / 2 ≡ o0 / 4 = div-div-eq-div-mul o0 2 2 in omega arith

    go : (v : Edition) → fixed_bits0 v o0 ≡ fixed0 v → (t : Bool) → eqb (o0 % 2) 0 ≡ t → (octet0 (form_of v o0) ≡ o0) × (is_reserved_set v (flag_of o0) ≡ false)
    go Older b true z = rw (z, bit-forth) (let k = eqb-true (o0 % 2) 0 z in let q = quarters in omega (arith, b), refl)
    go Older b false z = let k = eqb-false (o0 % 2) 0 z in absurd (omega (arith, b, k))
    go Newer b true z = rw (z, bit-forth) (let k = eqb-true (o0 % 2) 0 z in let q = quarters in omega (arith, b), refl)
    go Newer b false z = rw (z, bit-forth) (let k = eqb-false (o0 % 2) 0 z in let q = quarters in omega (arith, b), refl)

lengths_forth : (v : Edition) (o0 o3 : ℕ) → o3 < 256 → wrong_fixed v o0 o3 ≡ false → octet3 (entity_length_of o3) (number_length_of o3) ≡ o3
unfolding wrong_fixed
lengths_forth v o0 o3 h e =
    let b : o3 / 128 * 128 + o3 / 8 % 2 * 8 ≡ 0 = eqb-true (fixed_bits3 o3) 0 (not-false _ (or_false (not (eqb (fixed_bits0 v o0) (fixed0 v))) _ e).1) in
    let d : o3 / 8 / 2 ≡ o3 / 16 = div-div-eq-div-mul o3 8 2 in
    let q : o3 / 8 % 2 ≡ 0 = omega arith in
    let m : o3 / 16 % 8 ≡ o3 / 16 = mod-eq_of_lt (omega arith) in
    omega arith

-- as many requests as the length field says, its trailer left out
count_forth : (g : LargeFileFlag) (end h len : ℕ) → end ≡ h + len → 1 + 2 * field_length g ≤ len → (len - (1 + 2 * field_length g)) % (2 * field_length g) ≡ 0
    → 1 + field_length g * (2 + 2 * ((end - (h + 1 + 2 * field_length g)) / (2 * field_length g))) ≡ len
count_forth Normal end h len a b c = omega arith
count_forth Large end h len a b c = omega arith

room_forth : (g : LargeFileFlag) (end h len : ℕ) → end ≡ h + len → 1 + 2 * field_length g ≤ len → (len - (1 + 2 * field_length g)) % (2 * field_length g) ≡ 0
    → end - (h + 1 + 2 * field_length g) ≡ (end - (h + 1 + 2 * field_length g)) / (2 * field_length g) * (2 * field_length g)
room_forth Normal end h len a b c = omega arith
room_forth Large end h len a b c = omega arith

-- F of a packet is that of its flag
pub f_is : (p : List ℕ) → field_length_in p ≡ field_length (packet_flag p)
unfolding field_length_in
f_is p = refl

requests-at : (p : List ℕ) → requests_at p ≡ header_length_in p + 1 + 2 * field_length_in p
unfolding requests_at scope_at
requests-at p = refl

-- how many requests there is room for
abbrev pub count_in : List ℕ → ℕ
count_in p = (requests_end p - requests_at p) / (2 * field_length_in p)

-- where the requests end
end_is : (v : Edition) (p : List ℕ) → Read v p → requests_end p ≡ header_length_in p + (length_field p - trailer_in p)
unfolding requests_end
end_is v p r = let t = r.shape in omega arith

-- they start before they end, and end within the packet
pub requests-in : (v : Edition) (p : List ℕ) → Read v p → (requests_at p ≤ requests_end p) × (requests_end p ≤ length p)
requests-in v p r =
    let t = r.shape in
    let e = end_is v p r in
    let q = requests-at p in
    (omega arith, omega arith)

-- the octets from behind the scope to there are those of whole requests
pub requests-room : (v : Edition) (p : List ℕ) → Read v p → requests_end p - requests_at p ≡ count_in p * (2 * field_length_in p)
requests-room v p r =
    let t = r.shape in
    rw (requests-at p, f_is p)
    (room_forth (packet_flag p) (requests_end p) (header_length_in p) (length_field p - trailer_in p) (end_is v p r) (rw (f_is p) at t.room) (rw (f_is p) at t.whole))

-- the octets from behind the scope on hold them
pub requests_hold : (v : Edition) (p : List ℕ) → Read v p → count_in p * (2 * field_length_in p) ≤ length (drop (requests_at p) p)
requests_hold v p r =
    let i = requests-in v p r in
    let m = requests-room v p r in
    let d = length-drop (requests_at p) p in
    omega arith

module _ (v : Edition) (p : List ℕ) (a : AllOctets p) (r : Read v p) where
  scope-at : scope_at p ≡ header_length_in p + 1
  unfolding scope_at
  scope-at = refl

  -- what stands behind the requests: the trailer
  abbrev end : List ℕ
  end = drop (requests_end p) p

  -- the parts of the packet, from its end on
  e6 : fields (field_length_in p) (flat (packet_requests p)) ++ end ≡ drop (requests_at p) p
  unfolding packet_requests
  e6 =
      let i = requests-in v p r in
      let m = requests-room v p r in
      let n : requests_at p + count_in p * (2 * field_length_in p) ≡ requests_end p = omega arith in
      let b : drop (count_in p * (2 * field_length_in p)) (drop (requests_at p) p) ≡ end =
      drop-drop (count_in p * (2 * field_length_in p)) (requests_at p) p ∙ ap (λ (k : ℕ). drop k p) n
      in
      rw b at (requests_forth (field_length_in p) (count_in p) (drop (requests_at p) p) (octets-drop (requests_at p) p a) (requests_hold v p r))

  e5 : field (field_length_in p) (scope_in p).end ++ (fields (field_length_in p) (flat (packet_requests p)) ++ end) ≡ drop (scope_at p + field_length_in p) p
  unfolding scope_in
  e5 = let t = r.shape in let q = requests-at p in let w = scope-at in field_forth p (scope_at p + field_length_in p) (field_length_in p) (requests_at p) a (omega arith) (omega arith) e6

  e4 : field (field_length_in p) (scope_in p).start ++ (field (field_length_in p) (scope_in p).end ++ (fields (field_length_in p) (flat (packet_requests p)) ++ end)) ≡ drop (scope_at p) p
  unfolding scope_in
  e4 = let t = r.shape in let w = scope-at in field_forth p (scope_at p) (field_length_in p) (scope_at p + field_length_in p) a refl (omega arith) e5

  e3 : data_field (nak_in v p) ++ end ≡ drop (header_length_in p) p
  unfolding data_octets field_length_in
  e3 =
      let t = r.shape in
      let w = scope-at in
      simp append_assoc (octet_forth p (header_length_in p) (scope_at p) nak_code a (sym t.code) (omega arith) (omega arith) e4)

  e0 : identity_octets (packet_identity p) ++ (data_field (nak_in v p) ++ end) ≡ drop 4 p
  unfolding identity_octets packet_identity
  e0 =
      let t = r.shape in
      let h = header_is p in
      let i = entity_length_in p in
      let q = number_length_in p in
      let e2 = field_forth p (4 + i + q) i (header_length_in p) a (omega arith) (omega arith) e3 in
      let e1 = field_forth p (4 + i) q (4 + i + q) a refl (omega arith) e2 in
      let e = field_forth p 4 i (4 + i) a refl (omega arith) e1 in
      simp append_assoc e

  trailer-is : trailer_length (packet_form v p) ≡ trailer_in p
  unfolding trailer_in
  trailer-is = refl

  data-length : length (data_field (nak_in v p)) ≡ length_field p - trailer_in p
  unfolding packet_requests
  data-length =
      let t = r.shape in
      length_data (field_length (packet_flag p)) (scope_in p) (packet_requests p)
      ∙ rw (length-flat (packet_requests p), length-requests_in (field_length_in p) (count_in p) (drop (requests_at p) p), requests-at p, f_is p)
      (count_forth (packet_flag p) (requests_end p) (header_length_in p) (length_field p - trailer_in p) (end_is v p r) (rw (f_is p) at t.room) (rw (f_is p) at t.whole))

  form-is : octet0 (packet_form v p) ≡ octet_at p 0
  unfolding packet_flag packet_crc
  form-is = (form_forth v (octet_at p 0) (octet_at p 3) r.shape.fixed).0

  pub reserved_in : is_reserved_set v (packet_flag p) ≡ false
  unfolding packet_flag
  reserved_in = (form_forth v (octet_at p 0) (octet_at p 3) r.shape.fixed).1

  lengths-are : octet3 (entity_length_in p) (number_length_in p) ≡ octet_at p 3
  unfolding entity_length_in number_length_in
  lengths-are = lengths_forth v (octet_at p 0) (octet_at p 3) (octet_low p 3 a) r.shape.fixed

  length-is : field 2 (length (data_field (nak_in v p)) + trailer_length (packet_form v p)) ≡ field 2 (field_at p 1 2)
  unfolding length_field
  length-is = ap (field 2) (let d = data-length in let t = r.shape.some in rw trailer-is (omega arith))

  -- header, identity and data field of what was read, and behind them the trailer
  front-forth : front (nak_in v p) ++ end ≡ p
  unfolding header_octets packet_identity
  front-forth =
      let t = r.shape in
      let n = t.enough in
      let h3 = octet_forth p 3 4 (octet3 (entity_length_in p) (number_length_in p)) a lengths-are refl n e0 in
      let h1 = field_forth p 1 2 3 a refl (omega arith) h3 in
      let rest : List ℕ = field 1 (octet3 (entity_length_in p) (number_length_in p)) ++ (identity_octets (packet_identity p) ++ (data_field (nak_in v p) ++ end)) in
      let h0 = octet_forth p 0 1 (octet0 (packet_form v p)) a form-is refl (omega arith) (ap (λ (os : List ℕ). os ++ rest) length-is ∙ h1) in
      simp append_assoc h0

  length-front-is : length (front (nak_in v p)) ≡ length p - trailer_in p
  length-front-is =
      let l = length-append (front (nak_in v p)) end in
      let d = length-drop (requests_end p) p in
      let i = requests-in v p r in
      let e = end_is v p r in
      let t = r.shape in
      let w = ap length front-forth in
      omega arith

  -- without a trailer nothing stands behind them; with one it is their CRC
  trailer-forth : (t : Bool) → packet_crc p ≡ t → trailer (packet_form v p) (front (nak_in v p)) ≡ end
  unfolding requests_end trailer_in wrong_trailer
  trailer-forth false e = let z : length p - 0 ≡ length p = omega arith in rw e (sym (ap (λ (n : ℕ). drop n p) z ∙ drop-length p))
  trailer-forth true e =
      ap (λ (t : Bool). cond t (crc_trailer (crc_of (front (nak_in v p)))) []) e
      ∙ go ((test_exactly p a).0 (ends (ends_in_crc p) refl r.shape.trailer))
      ∙ sym (ap (λ (n : ℕ). drop (length p - n) p) two)
    where
      ends : (u : Bool) → ends_in_crc p ≡ u → wrong_trailer p ≡ false → ends_in_crc p ≡ true
      ends true w h = w
      ends false w h = absurd (true≢false (rw (e, w) at h))

      two : trailer_in p ≡ 2
      two = rw e

      go : EndsInCrc p → crc_trailer (crc_of (front (nak_in v p))) ≡ drop (length p - 2) p
      go (os, w) =
          let k : length os ≡ length p - 2 = let l = length-append os (crc_trailer (crc_of os)) in let m = ap length w in omega arith in
          let g : front (nak_in v p) ≡ take (length p - 2) p =
          sym (take_at (front (nak_in v p)) end (length p - 2) (length-front-is ∙ ap (λ (m : ℕ). length p - m) two)) ∙ ap (take (length p - 2)) front-forth
          in
          let o : take (length p - 2) p ≡ os = ap (take (length p - 2)) w ∙ take_at os (crc_trailer (crc_of os)) (length p - 2) k in
          ap (λ (x : List ℕ). crc_trailer (crc_of x)) (g ∙ o) ∙ sym (ap (drop (length p - 2)) w ∙ drop_at os (crc_trailer (crc_of os)) (length p - 2) k)

  -- writing what was read gives back every octet: every accepted packet is the PDU of its fields
  pub pdu_forth : pdu (nak_in v p) ≡ p
  pdu_forth = pdu_parts (nak_in v p) ∙ ap (λ (os : List ℕ). front (nak_in v p) ++ os) (trailer-forth (packet_crc p) refl) ∙ front-forth
