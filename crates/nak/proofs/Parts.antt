-- The parts of a PDU, and their lengths.
use mathlib.Core.Path.{◌≡◌, refl, ap, ◌∙◌}
use mathlib.Core.Bool.{Bool, true, false}
use mathlib.Core.List.{List, ◌∷◌, ◌++◌}
use Prim.Native.Nat.{ℕ, suc, ◌+◌, ◌*◌, ◌/◌, ◌≤◌}
use native.Mathlib.Nat.{mul-add, mul_assoc, mul_comm}
use native.Mathlib.Omega.{arith}
use lib.ListN.{length, take, drop, length-append, length-drop}
use lib.Seq.{length-take-le}
use Rattle.ranges.proofs.Flat.{flat_append, length-flat}
use Rattle.ranges.specs.Range.{Range}
use Rattle.ranges.specs.Store.{flat}
use Rattle.octets.specs.Octets.{field, fields}
use Rattle.octets.specs.Flag.{field_length}
use Rattle.octets.specs.declared.LargeFileFlag.{LargeFileFlag}
use Rattle.octets.specs.declared.LargeFileFlag.TheVariants.{Normal, Large}
use Rattle.octets.proofs.Fields.{length-field, length_fields}
use Rattle.nak.specs.declared.Asked.{Asked}
use Rattle.nak.specs.declared.Form.{Form}
use Rattle.nak.specs.declared.Identity.{Identity}
use Rattle.nak.specs.Pdu.{Nak, header_octets, identity_octets, data_octets, data_field, header, front, trailer, pdu, header_length, trailer_length, pdu_length}
use Rattle.nak.specs.Inner.{metadata_first, pairs_from, entries, requests_of}
use Rattle.nak.proofs.Flat.{flat-pairs}

pub length-header : (g : Form) (i q n : ℕ) → length (header_octets g i q n) ≡ 4
unfolding header_octets
length-header g i q n = refl

pub length-identity : (d : Identity) → length (identity_octets d) ≡ 2 * d.entity_length + d.number_length
unfolding identity_octets
length-identity d =
    let i = d.entity_length in
    let q = d.number_length in
    rw (length-append (field i d.source), length-append (field q d.number), length-field i d.source, length-field q d.number, length-field i d.destination) (omega arith)

pub length_data : (f : ℕ) (s : Range) (rs : List Range) → length (data_octets f s rs) ≡ 1 + f * (2 + length (flat rs))
unfolding data_octets
length_data f s rs = ap suc (length_fields f (s.start ∷ s.end ∷ flat rs)) ∙ omega arith

-- the trailer stands behind the data field
pub pdu_parts : (n : Nak) → pdu n ≡ front n ++ trailer n.form (front n)
unfolding pdu
pdu_parts n = refl

pub length-trailer : (g : Form) (os : List ℕ) → length (trailer g os) ≡ trailer_length g
length-trailer g os = go g.crc refl
  where
    go : (t : Bool) → g.crc ≡ t → length (trailer g os) ≡ trailer_length g
    go true e = rw e
    go false e = rw e

pub two_octets : (g : Form) → g.crc ≡ true → trailer_length g ≡ 2
two_octets g e = rw e

pub trailer-high : (g : Form) → trailer_length g ≤ 2
trailer-high g = go g.crc refl
  where
    go : (t : Bool) → g.crc ≡ t → trailer_length g ≤ 2
    go true e = rw e (omega arith)
    go false e = rw e (omega arith)

pub length_front : (n : Nak) → length (front n) ≡ header_length n.identity.entity_length n.identity.number_length + length (data_field n)
length_front n =
    let d = n.identity in
    let h = length-header n.form d.entity_length d.number_length (length (data_field n) + trailer_length n.form) in
    let e = length-identity d in
    rw (length-append (header n), length-append (identity_octets d)) (omega arith)

pub length-pdu : (n : Nak)
    → length (pdu n) ≡ header_length n.identity.entity_length n.identity.number_length + length (data_field n) + trailer_length n.form
length-pdu n = rw (pdu_parts n, length-append (front n), length-trailer n.form (front n), length_front n)

-- the flat list of some of its pairs
pub flat-from : (xs : List ℕ) (first count : ℕ) → 2 * first + 2 * count ≤ length xs → flat (pairs_from xs first count) ≡ take (2 * count) (drop (2 * first) xs)
flat-from xs first count h =
    let d = length-drop (2 * first) xs in
    let n : length (take (2 * count) (drop (2 * first) xs)) ≡ 2 * count = length-take-le (2 * count) (drop (2 * first) xs) (omega arith) in
    flat-pairs (take (2 * count) (drop (2 * first) xs)) (omega arith)

-- the numbers of the requests of a PDU, and how many there are
pub flat-entries : (m : Bool) (xs : List ℕ) (first count : ℕ) → 2 * first + 2 * count ≤ length xs → flat (entries m xs first count) ≡ flat (metadata_first m) ++ take (2 * count) (drop (2 * first) xs)
flat-entries m xs first count h = flat_append (metadata_first m) (pairs_from xs first count) ∙ ap (λ (l : List ℕ). flat (metadata_first m) ++ l) (flat-from xs first count h)

pub length-entries : (m : Bool) (xs : List ℕ) (first count : ℕ) → 2 * first + 2 * count ≤ length xs → length (flat (entries m xs first count)) ≡ length (flat (metadata_first m)) + 2 * count
length-entries m xs first count h =
    let d = length-drop (2 * first) xs in
    rw (flat-entries m xs first count h, length-append (flat (metadata_first m)), length-take-le (2 * count) (drop (2 * first) xs) (omega arith))

-- how much room each part of the data field of what is asked for takes
pub length-asked_for : (a : Asked) → length (flat (requests_of a)) ≡ length (flat (metadata_first a.metadata)) + 2 * (length a.requests.now / 2)
length-asked_for a = length-entries a.metadata a.requests.now 0 (length a.requests.now / 2) (omega arith)

pub data_room : (f : ℕ) (a : Asked)
    → f * (2 + length (flat (requests_of a))) ≡ 2 * f + length (fields f (flat (metadata_first a.metadata))) + f * (2 * (length a.requests.now / 2))
data_room f a = rw (length-asked_for a, length_fields f (flat (metadata_first a.metadata)), mul-add, mul-add) (omega arith)

-- two numbers for the metadata request
pub length-asked : (f : ℕ) → length (fields f (flat (metadata_first true))) ≡ f + f
length-asked f = rw (length-append (field f 0), length-field f 0) (rw (length-append (field f 0), length-field f 0) (omega arith))

pub asked-room : (m : Bool) (f : ℕ) → m ≡ true → length (fields f (flat (metadata_first m))) ≡ f + f
asked-room m f e = rw e (length-asked f)

-- a data field is at least as long as the number of its numbers
pub data_low : (g : LargeFileFlag) (n : ℕ) → n ≤ field_length g * n
data_low Normal n = omega arith
data_low Large n = omega arith

pub f_high : (g : LargeFileFlag) (m : ℕ) {f : ℕ} → f ≡ field_length g → m ≤ 8194 → f * m ≤ 65552
f_high Normal m e h = rw e (omega arith)
f_high Large m e h = rw e (omega arith)

-- the length of a PDU, by how many numbers its requests have
pub pdu-length : (n : Nak) → pdu_length n.form n.identity (length (flat n.requests)) ≡ length (pdu n)
pdu-length n = rw (length-pdu n, length_data (field_length n.form.flag) n.scope n.requests)

-- the PDU's length by its requests: H + 1 + 2F for the scope, 2F for each request, and the trailer
pub length_of_pdu : (n : Nak)
    → length (pdu n) ≡ header_length n.identity.entity_length n.identity.number_length + 1 + 2 * field_length n.form.flag + 2 * field_length n.form.flag * length n.requests
    + trailer_length n.form
length_of_pdu n =
    let f = field_length n.form.flag in
    length-pdu n ∙ rw (length_data f n.scope n.requests, length-flat n.requests, mul-add f 2, ← mul_assoc f 2, mul_comm f 2) (omega arith)
