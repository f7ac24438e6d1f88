-- Reading a PDU: each field that was written comes back.
use mathlib.Core.Path.{◌≡◌, refl, sym, ap, ◌∙◌}
use mathlib.Core.Bool.{Bool, true, false, ◌&&◌, not, true≢false}
use mathlib.Core.List.{List, [], ◌∷◌, ◌++◌, append_assoc}
use Prim.Native.Nat.{ℕ, ◌+◌, ◌*◌, ◌-◌, ◌/◌, ◌%◌, ◌^◌, ◌≤◌, ◌<◌}
use native.Mathlib.Omega.{arith}
use lib.Dec.{ltb, eqb}
use lib.ListN.{length, get_or, take, drop, length-append}
use lib.Seq.{take_at, drop_at, get_or_at}
use borrow.Author.Tests.{ltb-false, le-ltb, eq-eqb}
use Rattle.ranges.proofs.Test.{or_false}
use Rattle.ranges.proofs.Flat.{length-flat}
use Rattle.ranges.specs.Range.{Range}
use Rattle.ranges.specs.Store.{flat, any_above}
use Rattle.outcomes.specs.Outcome.{accepted}
use Rattle.octets.specs.Octets.{field, fields}
use Rattle.octets.specs.Flag.{field_length, largest_of}
use Rattle.octets.specs.declared.LargeFileFlag.{LargeFileFlag}
use Rattle.octets.specs.declared.LargeFileFlag.TheVariants.{Normal, Large}
use Rattle.octets.proofs.Fields.{length-field, length_fields, got_put}
use Rattle.octets.proofs.Largest.{largest-fits}
use Rattle.nak.specs.declared.Edition.{Edition}
use Rattle.nak.specs.declared.Edition.TheVariants.{Older, Newer}
use Rattle.nak.specs.declared.Form.{Form}
use Rattle.nak.specs.Header.{wrong_fixed, fixed0, crc_bit, flag_bit, octet0, octet3, is_reserved_set, flag_of, crc_flag_of}
use Rattle.nak.specs.Pdu.{Nak, nak_code, header_octets, identity_octets, data_octets, header, data_field, trailer_length, front, trailer, pdu}
use Rattle.nak.specs.Inner.{GoodLengths}
use Rattle.nak.proofs.Parts.{length-header, length_data, pdu_parts, length-pdu}
use Rattle.crc.specs.Damage.{ends_in_crc}
use Rattle.crc.proofs.Ends.{ends_tested}
use Rattle.nak.proofs.Checks.{good-lengths, GoodNumbers, good-numbers, NakFine}
use Rattle.nak_parsing.specs.Parser.{octet_at, field_at, packet_flag, packet_crc, trailer_in, packet_form, field_length_in, entity_length_in, number_length_in, header_length_in}
use Rattle.nak_parsing.specs.Parser.{length_field, scope_at, requests_at, requests_end, requests_in, packet_identity, scope_in, packet_requests, nak_in, wrong_length}
use Rattle.nak_parsing.specs.Parser.{wrong_trailer, wrong_data, read_outcome}
use Rattle.nak_parsing.proofs.Reading.{header_is, Shape, shape_of, read_fine}

-- the number of a field that stands behind x
pub field_back : {p : List ℕ} (x z : List ℕ) (at f v : ℕ) → p ≡ x ++ (field f v ++ z) → length x ≡ at → v < 256 ^ f → field_at p at f ≡ v
field_back x z at f v e l h = rw (e, drop_at x (field f v ++ z) at l, take_at (field f v) z f (length-field f v)) (got_put f v h)

-- the octets behind x
pub rest_back : {p : List ℕ} (x z : List ℕ) (at : ℕ) → p ≡ x ++ z → length x ≡ at → drop at p ≡ z
rest_back x z at e l = rw (e, drop_at x z at l)

-- numbers that are not above the flag's largest fit its field
pub below_top : (g : LargeFileFlag) (v : ℕ) (vs : List ℕ) → any_above (largest_of g) (v ∷ vs) ≡ false → (v < 256 ^ field_length g) × (any_above (largest_of g) vs ≡ false)
below_top g v vs e =
    let t = or_false (ltb (largest_of g) v) (any_above (largest_of g) vs) e in
    (largest-fits g v (ltb-false (largest_of g) v t.0), t.1)

-- the requests come back from their octets
pub requests_back : (g : LargeFileFlag) (rs : List Range) (t : List ℕ) → any_above (largest_of g) (flat rs) ≡ false
    → requests_in (field_length g) (length rs) (fields (field_length g) (flat rs) ++ t) ≡ rs
requests_back g [] t h = refl
requests_back g (r ∷ rs) t h =
    let f = field_length g in
    let a = below_top g r.start (r.end ∷ flat rs) h in
    let b = below_top g r.end (flat rs) a.1 in
    let s = field f r.start in
    let e = field f r.end in
    let z = fields f (flat rs) ++ t in
    let ls = length-field f r.start in
    let le = length-field f r.end in
    let l : length (s ++ e) ≡ 2 * f = length-append s e ∙ omega arith in
    let x : field_at (s ++ (e ++ z)) 0 f ≡ r.start = field_back [] (e ++ z) 0 f r.start refl refl a.0 in
    let y : field_at (s ++ (e ++ z)) f f ≡ r.end = field_back s z f f r.end refl ls b.0 in
    let w : drop (2 * f) (s ++ (e ++ z)) ≡ z = rest_back (s ++ e) z (2 * f) (sym (append_assoc s e z)) l in
    let q : fields f (flat (r ∷ rs)) ++ t ≡ s ++ (e ++ z) = append_assoc s (e ++ fields f (flat rs)) t ∙ ap (λ (l : List ℕ). s ++ l) (append_assoc e (fields f (flat rs)) t) in
    rw (q, x, y, w, requests_back g rs t b.1)

flags_of : (e : Edition) (c : Bool) (f : LargeFileFlag)
    → (flag_of ((fixed0 e + crc_bit c * 2 + flag_bit f) % 256) ≡ f) × (crc_flag_of ((fixed0 e + crc_bit c * 2 + flag_bit f) % 256) ≡ c)
flags_of Older false Normal = (refl, refl)
flags_of Older false Large = (refl, refl)
flags_of Older true Normal = (refl, refl)
flags_of Older true Large = (refl, refl)
flags_of Newer false Normal = (refl, refl)
flags_of Newer false Large = (refl, refl)
flags_of Newer true Normal = (refl, refl)
flags_of Newer true Large = (refl, refl)

-- how many requests there are room for
count_is : (g : LargeFileFlag) (h k : ℕ) → (h + (1 + field_length g * (2 + 2 * k)) - (h + 1 + 2 * field_length g)) / (2 * field_length g) ≡ k
count_is Normal h k = omega arith
count_is Large h k = omega arith

-- and how many octets they have
span_is : (g : LargeFileFlag) (h k : ℕ) → h + (1 + field_length g * (2 + 2 * k)) - (h + 1 + 2 * field_length g) ≡ field_length g * (2 * k)
span_is Normal h k = omega arith
span_is Large h k = omega arith

whole_is : (g : LargeFileFlag) (k : ℕ) → (1 + field_length g * (2 + 2 * k) - (1 + 2 * field_length g)) % (2 * field_length g) ≡ 0
whole_is Normal k = omega arith
whole_is Large k = omega arith

room-is : (g : LargeFileFlag) (k : ℕ) → 1 + 2 * field_length g ≤ 1 + field_length g * (2 + 2 * k)
room-is Normal k = omega arith
room-is Large k = omega arith

fixed_right : (g : Form) (i q : ℕ) → is_reserved_set g.edition g.flag ≡ false → 1 ≤ i → i ≤ 8 → 1 ≤ q → q ≤ 8
    → wrong_fixed g.edition (octet0 g % 256) (octet3 i q % 256) ≡ false
unfolding wrong_fixed
fixed_right g i q r a b c d = go g.edition g.crc g.flag r
  where
    lengths-right : eqb (octet3 i q % 256 / 128 * 128 + octet3 i q % 256 / 8 % 2 * 8) 0 ≡ true
    lengths-right = eq-eqb (octet3 i q % 256 / 128 * 128 + octet3 i q % 256 / 8 % 2 * 8) 0 (omega arith)

    go : (e : Edition) (c : Bool) (f : LargeFileFlag) → is_reserved_set e f ≡ false
        → wrong_fixed e ((fixed0 e + crc_bit c * 2 + flag_bit f) % 256) (octet3 i q % 256) ≡ false
    go Older c Large h = absurd (true≢false h)
    go Older true Normal h = rw lengths-right
    go Older false Normal h = rw lengths-right
    go Newer true Normal h = rw lengths-right
    go Newer false Normal h = rw lengths-right
    go Newer true Large h = rw lengths-right
    go Newer false Large h = rw lengths-right

module _ (n : Nak) (fine : NakFine n) where
  lengths : GoodLengths n.identity
  lengths = good-lengths n.identity fine.identity

  abbrev edition : Edition
  edition = n.form.edition

  flag-back : packet_flag (pdu n) ≡ n.form.flag
  unfolding packet_flag pdu header_octets
  flag-back = (flags_of edition n.form.crc n.form.flag).0

  crc-back : packet_crc (pdu n) ≡ n.form.crc
  unfolding packet_crc pdu header_octets
  crc-back = (flags_of edition n.form.crc n.form.flag).1

  trailer-back : trailer_in (pdu n) ≡ trailer_length n.form
  unfolding trailer_in
  trailer-back = rw crc-back

  pub form_back : packet_form edition (pdu n) ≡ n.form
  form_back = rw (flag-back, crc-back)

  pub field_length_back : field_length_in (pdu n) ≡ field_length n.form.flag
  unfolding field_length_in
  field_length_back = ap field_length flag-back

  pub entity_length_back : entity_length_in (pdu n) ≡ n.identity.entity_length
  unfolding entity_length_in pdu header_octets
  entity_length_back = let l = lengths in omega arith

  pub number-length_back : number_length_in (pdu n) ≡ n.identity.number_length
  unfolding number_length_in pdu header_octets
  number-length_back = let l = lengths in omega arith

  pub header_length_back : header_length_in (pdu n) ≡ 4 + 2 * n.identity.entity_length + n.identity.number_length
  header_length_back = header_is (pdu n) ∙ rw (entity_length_back, number-length_back)

  data-high : length (data_field n) + trailer_length n.form < 65536
  data-high = let s = fine.size in let l = length-pdu n in omega arith

  pub length_field_back : length_field (pdu n) ≡ length (data_field n) + trailer_length n.form
  unfolding length_field pdu header_octets
  length_field_back = got_put 2 (length (data_field n) + trailer_length n.form) (let h = data-high in omega arith)

  -- the parts of the PDU
  so : List ℕ
  so = field n.identity.entity_length n.identity.source

  nu : List ℕ
  nu = field n.identity.number_length n.identity.number

  de : List ℕ
  de = field n.identity.entity_length n.identity.destination

  st : List ℕ
  st = field (field_length n.form.flag) n.scope.start

  en : List ℕ
  en = field (field_length n.form.flag) n.scope.end

  -- the requests, and behind them the trailer
  re : List ℕ
  re = fields (field_length n.form.flag) (flat n.requests) ++ trailer n.form (front n)

  whole : pdu n ≡ header n ++ (so ++ (nu ++ (de ++ (field 1 nak_code ++ (st ++ (en ++ re))))))
  unfolding identity_octets data_octets so nu de st en re
  whole = pdu_parts n ∙ simp append_assoc

  numbers : GoodNumbers n.identity
  numbers = good-numbers n.identity fine.identity

  length-so : length so ≡ n.identity.entity_length
  unfolding so
  length-so = length-field n.identity.entity_length n.identity.source

  length-nu : length nu ≡ n.identity.number_length
  unfolding nu
  length-nu = length-field n.identity.number_length n.identity.number

  length-de : length de ≡ n.identity.entity_length
  unfolding de
  length-de = length-field n.identity.entity_length n.identity.destination

  length-st : length st ≡ field_length n.form.flag
  unfolding st
  length-st = length-field (field_length n.form.flag) n.scope.start

  length-en : length en ≡ field_length n.form.flag
  unfolding en
  length-en = length-field (field_length n.form.flag) n.scope.end

  -- what stands before each part, and how long it is
  before1 : length (header n ++ so) ≡ 4 + n.identity.entity_length
  before1 = rw (length-append (header n), length-so, length-header n.form _ _ _)

  before2 : length (header n ++ so ++ nu) ≡ 4 + n.identity.entity_length + n.identity.number_length
  before2 = rw (length-append (header n ++ so), before1, length-nu)

  before3 : length (header n ++ so ++ nu ++ de) ≡ header_length_in (pdu n)
  before3 = rw (length-append (header n ++ so ++ nu), before2, length-de, header_length_back) (omega arith)

  before4 : length (header n ++ so ++ nu ++ de ++ field 1 nak_code) ≡ header_length_in (pdu n) + 1
  before4 = rw (length-append (header n ++ so ++ nu ++ de), before3)

  before5 : length (header n ++ so ++ nu ++ de ++ field 1 nak_code ++ st) ≡ header_length_in (pdu n) + 1 + field_length n.form.flag
  before5 = rw (length-append (header n ++ so ++ nu ++ de ++ field 1 nak_code), before4, length-st)

  before6 : length (header n ++ so ++ nu ++ de ++ field 1 nak_code ++ st ++ en) ≡ header_length_in (pdu n) + 1 + 2 * field_length n.form.flag
  before6 = rw (length-append (header n ++ so ++ nu ++ de ++ field 1 nak_code ++ st), before5, length-en) (omega arith)

  pub source_back : field_at (pdu n) 4 n.identity.entity_length ≡ n.identity.source
  unfolding so
  source_back = field_back (header n) (nu ++ (de ++ (field 1 nak_code ++ (st ++ (en ++ re))))) 4 _ _ whole (length-header n.form _ _ _) numbers.source

  pub number_back : field_at (pdu n) (4 + n.identity.entity_length) n.identity.number_length ≡ n.identity.number
  unfolding nu
  number_back = field_back (header n ++ so) (de ++ (field 1 nak_code ++ (st ++ (en ++ re)))) _ _ _ (whole ∙ simp append_assoc) before1 numbers.number

  pub destination_back : field_at (pdu n) (4 + n.identity.entity_length + n.identity.number_length) n.identity.entity_length ≡ n.identity.destination
  unfolding de
  destination_back = field_back (header n ++ so ++ nu) (field 1 nak_code ++ (st ++ (en ++ re))) _ _ _ (whole ∙ simp append_assoc) before2 numbers.destination

  pub identity_back : packet_identity (pdu n) ≡ n.identity
  unfolding packet_identity
  identity_back = rw (entity_length_back, number-length_back, source_back, number_back, destination_back)

  pub code_back : octet_at (pdu n) (header_length_in (pdu n)) ≡ nak_code
  code_back =
      let e : pdu n ≡ header n ++ so ++ nu ++ de ++ nak_code ∷ (st ++ (en ++ re)) = whole ∙ simp append_assoc in
      ap (λ (l : List ℕ). get_or l (header_length_in (pdu n)) 0) e ∙ get_or_at (header n ++ so ++ nu ++ de) nak_code (st ++ (en ++ re)) 0 (header_length_in (pdu n)) before3

  start_back : n.scope.start < 256 ^ field_length n.form.flag → field_at (pdu n) (header_length_in (pdu n) + 1) (field_length n.form.flag) ≡ n.scope.start
  unfolding st
  start_back h = field_back (header n ++ so ++ nu ++ de ++ field 1 nak_code) (en ++ re) _ _ _ (whole ∙ simp append_assoc) before4 h

  end_back : n.scope.end < 256 ^ field_length n.form.flag → field_at (pdu n) (header_length_in (pdu n) + 1 + field_length n.form.flag) (field_length n.form.flag) ≡ n.scope.end
  unfolding en
  end_back h = field_back (header n ++ so ++ nu ++ de ++ field 1 nak_code ++ st) re _ _ _ (whole ∙ simp append_assoc) before5 h

  pub scope_back : scope_in (pdu n) ≡ n.scope
  unfolding scope_in scope_at
  scope_back =
      let a = below_top n.form.flag n.scope.start (n.scope.end ∷ flat n.requests) fine.numbers in
      let b = below_top n.form.flag n.scope.end (flat n.requests) a.1 in
      rw (field_length_back, start_back a.0, end_back b.0)

  requests-at-back : requests_at (pdu n) ≡ header_length_in (pdu n) + 1 + 2 * field_length n.form.flag
  unfolding requests_at scope_at
  requests-at-back = rw field_length_back

  rest : drop (requests_at (pdu n)) (pdu n) ≡ fields (field_length n.form.flag) (flat n.requests) ++ trailer n.form (front n)
  unfolding re
  rest = rest_back (header n ++ so ++ nu ++ de ++ field 1 nak_code ++ st ++ en) re _ (whole ∙ simp append_assoc) (before6 ∙ sym requests-at-back)

  data-length : length (data_field n) ≡ 1 + field_length n.form.flag * (2 + 2 * length n.requests)
  data-length = length_data (field_length n.form.flag) n.scope n.requests ∙ rw (length-flat n.requests)

  total : length (pdu n) ≡ header_length_in (pdu n) + (1 + field_length n.form.flag * (2 + 2 * length n.requests)) + trailer_length n.form
  total = length-pdu n ∙ rw (header_length_back, data-length)

  end-of-requests : requests_end (pdu n) ≡ header_length_in (pdu n) + (1 + field_length n.form.flag * (2 + 2 * length n.requests))
  unfolding requests_end
  end-of-requests = omega (arith, total, trailer-back)

  -- the part that holds the requests
  pub part_back : take (requests_end (pdu n) - requests_at (pdu n)) (drop (requests_at (pdu n)) (pdu n)) ≡ fields (field_length n.form.flag) (flat n.requests)
  part_back =
      let f = field_length n.form.flag in
      let os = fields f (flat n.requests) in
      let l : length os ≡ requests_end (pdu n) - requests_at (pdu n) =
      length_fields f (flat n.requests) ∙ rw (length-flat n.requests, requests-at-back, end-of-requests, span_is n.form.flag (header_length_in (pdu n)) (length n.requests))
      in
      rw rest (take_at os (trailer n.form (front n)) _ l)

  pub requests_of_back : packet_requests (pdu n) ≡ n.requests
  unfolding packet_requests
  requests_of_back =
      let a = below_top n.form.flag n.scope.start (n.scope.end ∷ flat n.requests) fine.numbers in
      let b = below_top n.form.flag n.scope.end (flat n.requests) a.1 in
      let c = count_is n.form.flag (header_length_in (pdu n)) (length n.requests) in
      rw (rest, requests-at-back, field_length_back, end-of-requests, c) (requests_back n.form.flag n.requests (trailer n.form (front n)) b.1)

  -- reading what was written gives back every field, the requests in order and the form included
  pub nak_back : nak_in edition (pdu n) ≡ n
  nak_back = rw (flag-back, crc-back, identity_back, scope_back, requests_of_back)

  fixed_back : wrong_fixed edition (octet_at (pdu n) 0) (octet_at (pdu n) 3) ≡ false
  unfolding pdu header_octets
  fixed_back = let l = lengths in fixed_right n.form _ _ fine.reserved l.entity_low l.entity_high l.number-low l.number-high

  right-length-back : wrong_length (pdu n) ≡ false
  unfolding wrong_length
  right-length-back =
      let l = length_field_back in
      let d = data-length in
      let t = total in
      let r = trailer-back in
      rw (le-ltb (length_field (pdu n)) (1 + trailer_in (pdu n)) (omega arith), eq-eqb (length (pdu n)) (header_length_in (pdu n) + length_field (pdu n)) (omega arith))

  right-data-back : wrong_data (pdu n) ≡ false
  unfolding wrong_data
  right-data-back =
      let w : length (data_field n) + trailer_length n.form - trailer_length n.form ≡ length (data_field n) = omega arith in
      rw (length_field_back, trailer-back, w, data-length, field_length_back, le-ltb _ _ (room-is n.form.flag (length n.requests)), whole_is n.form.flag (length n.requests))

  -- the trailer that is written is the one that reading asks for
  ends-back : n.form.crc ≡ true → ends_in_crc (pdu n) ≡ true
  ends-back e = ends_tested (pdu n) (front n, pdu_parts n ∙ rw e)

  right-trailer-back : wrong_trailer (pdu n) ≡ false
  unfolding wrong_trailer
  right-trailer-back = rw crc-back (go n.form.crc refl)
    where
      go : (t : Bool) → n.form.crc ≡ t → (t && not (ends_in_crc (pdu n))) ≡ false
      go true e = rw (ends-back e)
      go false e = refl

  pub shape_back : Shape edition (pdu n)
  shape_back =
      let enough = le-ltb (length (pdu n)) 4 (let l = length-pdu n in omega arith) in
      let code = ap not (eq-eqb (octet_at (pdu n) (header_length_in (pdu n))) nak_code code_back) in
      shape_of edition (pdu n) (enough, (fixed_back, (right-length-back, (right-trailer-back, (code, (right-data-back, tt))))))

  -- every PDU of fields within the limits is accepted
  pub read_back : read_outcome edition (pdu n) ≡ accepted []
  read_back = read_fine edition (pdu n) shape_back (rw scope_back fine.scope) (rw requests_of_back fine.requests) fine.size
