-- Writing and reading undo each other: what the writer accepts is read back whole, and what the reader accepts is written back
-- octet for octet.
use mathlib.Core.Path.{◌≡◌, refl, sym, ap, ◌∙◌}
use mathlib.Core.Bool.{false}
use mathlib.Core.List.{List, [], ◌∷◌}
use Prim.Native.Nat.{ℕ, zero, suc, ◌+◌, ◌*◌, ◌-◌, ◌/◌, ◌%◌, ◌^◌, ◌≤◌, ◌<◌}
use native.Mathlib.Nat.{suc-mul, div-le_self}
use native.Mathlib.Omega.{arith}
use lib.Dec.{ltb}
use lib.ListN.{length, drop, length-drop}
use borrow.Author.Tests.{le-ltb, ne_eqb}
use Rattle.ranges.proofs.Flat.{length-flat, pairs-flat}
use Rattle.ranges.specs.Store.{pairs, flat, any_above}
use Rattle.outcomes.specs.Outcome.{Outcome, accepted}
use Rattle.octets.specs.Octets.{fields, AllOctets}
use Rattle.octets.specs.Flag.{field_length, largest_of}
use Rattle.octets.specs.declared.LargeFileFlag.{LargeFileFlag}
use Rattle.octets.proofs.Fields.{octets-drop}
use Rattle.octets.proofs.Largest.{fits-largest}
use Rattle.nak.specs.declared.Edition.{Edition}
use Rattle.nak.specs.Pdu.{Nak, pdu}
use Rattle.nak.specs.Inner.{GoodLengths}
use Rattle.nak.specs.Writer.{is_bad_list, numbers_of, nak_outcome, write_outcome, written}
use Rattle.nak.proofs.Checks.{GoodNumbers, not_bad_identity, NakFine, nak_of, fine_nak, fine_write, write_accepted}
use Rattle.nak_parsing.specs.declared.Parsed.{Parsed}
use Rattle.nak_parsing.specs.Parser.{requests_part, accepted_parsed, Says, packet_flag, field_length_in, entity_length_in, number_length_in, header_length_in, scope_at}
use Rattle.nak_parsing.specs.Parser.{requests_at, requests_end, requests_in, packet_identity, scope_in, packet_requests, nak_in, read_outcome}
use Rattle.nak_parsing.proofs.Reading.{Read, read_of, header_is, entity_low, entity_high, number-low, number-high}
use Rattle.nak_parsing.proofs.Editions.{one-edition}
use Rattle.nak_parsing.proofs.ParsedOf.{parsed-accepted}
use Rattle.nak_parsing.proofs.FieldsBack.{nak_back, read_back, part_back}
use Rattle.nak_parsing.proofs.OctetsBack.{part_low, f_is, count_in, requests-in, requests_hold, length-requests_in, reserved_in, pdu_forth}

-- Reading what was written gives back every field, the requests in order and the flag included, for everything the writer accepts.
pub read_written :
    (xs : List ℕ) (n : Nak) (buf : List ℕ)
    → (write_outcome xs n (length buf)).number ≡ 0
    → (read_outcome n.form.edition (written xs n buf) ≡ accepted []) × (nak_in n.form.edition (written xs n buf) ≡ n)
read_written xs n buf z =
    let w = write_accepted xs n (length buf) z in
    let f = w.says in
    rw (fine_write xs n (length buf) w) (read_back n f, nak_back n f)

-- what `parse` hands back of an accepted packet is what the packet says
pub parsed-says : (p : List ℕ) (n : Nak) → read_outcome n.form.edition p ≡ accepted [] → nak_in n.form.edition p ≡ n → Says p n
unfolding accepted_parsed
parsed-says p n a e =
    let h = parsed-accepted n.form.edition p a in
    record {
      refusal = rw h;
      identity = ap (λ (z : Parsed). z.identity) h ∙ ap (λ (z : Nak). z.identity) e;
      form = ap (λ (z : Parsed). z.form) h ∙ ap (λ (z : Nak). z.form) e;
      scope-start = ap (λ (z : Parsed). z.scope_start) h ∙ ap (λ (z : Nak). z.scope.start) e;
      scope-end = ap (λ (z : Parsed). z.scope_end) h ∙ ap (λ (z : Nak). z.scope.end) e;
      requests = ap (λ (z : Nak). z.requests) e;
    }

-- so parsing what was written hands back every field
pub parsed-written : (xs : List ℕ) (n : Nak) (buf : List ℕ) → (write_outcome xs n (length buf)).number ≡ 0 → Says (written xs n buf) n
parsed-written xs n buf z = let r = read_written xs n buf z in parsed-says (written xs n buf) n r.0 r.1

-- Every PDU of fields within the limits is accepted.
pub pdu-accepted : (n : Nak) → nak_outcome n ≡ accepted [] → read_outcome n.form.edition (pdu n) ≡ accepted []
pdu-accepted n e = read_back n (nak_of n (ap (λ (o : Outcome). o.number) e))

-- and says what it was made of
pub read_pdu : (n : Nak) → nak_outcome n ≡ accepted [] → nak_in n.form.edition (pdu n) ≡ n
read_pdu n e = nak_back n (nak_of n (ap (λ (o : Outcome). o.number) e))

-- Two NAKs within the limits that have one PDU are the same.
pub pdu_injective : (m n : Nak) → nak_outcome m ≡ accepted [] → nak_outcome n ≡ accepted [] → pdu m ≡ pdu n → m ≡ n
pdu_injective m n a b e =
    let f = nak_of m (ap (λ (o : Outcome). o.number) a) in
    let g = nak_of n (ap (λ (o : Outcome). o.number) b) in
    let v = m.form.edition in
    let w = n.form.edition in
    let same = one-edition v w (pdu n) (ap (λ (o : Outcome). o.number) (rw e at (read_back m f))) (ap (λ (o : Outcome). o.number) (read_back n g)) in
    sym (nak_back m f) ∙ ap (nak_in v) e ∙ ap (λ (x : Edition). nak_in x (pdu n)) same ∙ nak_back n g

-- The part of a PDU that is handed back as its requests holds them, start and end, F octets each.
pub part-written : (n : Nak) → nak_outcome n ≡ accepted [] → requests_part n.form.edition (pdu n) ≡ fields (field_length n.form.flag) (flat n.requests)
part-written n e = rw (pdu-accepted n e) (part_back n (nak_of n (ap (λ (o : Outcome). o.number) e)))

above-one : (g : LargeFileFlag) (v : ℕ) {f : ℕ} → f ≡ field_length g → v < 256 ^ f → ltb (largest_of g) v ≡ false
above-one g v e h = le-ltb (largest_of g) v (fits-largest g v (rw e at h))

-- numbers read from fields of the flag's length are not above its largest
none_above : (g : LargeFileFlag) (k : ℕ) (os : List ℕ) → AllOctets os → k * (2 * field_length g) ≤ length os
    → any_above (largest_of g) (flat (requests_in (field_length g) k os)) ≡ false
none_above g zero os a h = refl
none_above g (suc k) os a h =
    let f = field_length g in
    let l = rw suc-mul at h in
    let d = length-drop (2 * f) os in
    rw (above-one g _ refl (part_low os 0 f a (omega arith)), above-one g _ refl (part_low os f f a (omega arith))) (none_above g k (drop (2 * f) os) (octets-drop (2 * f) os a) (omega arith))

module _ (v : Edition) (p : List ℕ) (a : AllOctets p) (r : Read v p) where
  good-lengths-in : GoodLengths (packet_identity p)
  unfolding packet_identity
  good-lengths-in = record { entity_low = entity_low p; entity_high = entity_high p; number-low = number-low p; number-high = number-high p }

  good-numbers-in : GoodNumbers (packet_identity p)
  unfolding packet_identity
  good-numbers-in =
      let t = r.shape in
      let h = header_is p in
      record {
        source = part_low p 4 (entity_length_in p) a (omega arith);
        number = part_low p (4 + entity_length_in p) (number_length_in p) a (omega arith);
        destination = part_low p (4 + entity_length_in p + number_length_in p) (entity_length_in p) a (omega arith);
      }

  numbers-in : any_above (largest_of (packet_flag p)) (numbers_of (nak_in v p)) ≡ false
  unfolding scope_in scope_at packet_requests field_length_in packet_flag
  numbers-in =
      let t = r.shape in
      let g = packet_flag p in
      let x = above-one g (scope_in p).start (f_is p) (part_low p (header_length_in p + 1) (field_length_in p) a (omega arith)) in
      let y = above-one g (scope_in p).end (f_is p) (part_low p (header_length_in p + 1 + field_length_in p) (field_length_in p) a (omega arith)) in
      let k = (requests_end p - requests_at p) / (2 * field_length g) in
      let z = none_above g k (drop (requests_at p) p) (octets-drop (requests_at p) p a) (rw (f_is p) at (requests_hold v p r)) in
      rw (x, y, f_is p) z

  -- what an accepted packet says is within the limits
  pub fine_in : NakFine (nak_in v p)
  fine_in =
      record {
        identity = not_bad_identity (packet_identity p) good-lengths-in good-numbers-in;
        reserved = reserved_in v p a r;
        scope = r.scope;
        requests = r.requests;
        numbers = numbers-in;
        size = rw (pdu_forth v p a r) r.size;
      }

-- Every accepted packet is the PDU of its fields, and they are within the limits.
pub accepted-pdu : (v : Edition) (p : List ℕ) → AllOctets p → (read_outcome v p).number ≡ 0 → (pdu (nak_in v p) ≡ p) × (nak_outcome (nak_in v p) ≡ accepted [])
accepted-pdu v p a z = let r = read_of v p z in (pdu_forth v p a r, fine_nak (nak_in v p) (fine_in v p a r))

-- the flat list of the requests of an accepted packet is even, and short enough for the writer
good-requests : (v : Edition) (p : List ℕ) → Read v p → is_bad_list (flat (packet_requests p)) ≡ false
unfolding is_bad_list packet_requests
good-requests v p r =
    let k = count_in p in
    let rs = requests_in (field_length_in p) k (drop (requests_at p) p) in
    let l : length (flat rs) ≡ 2 * k = length-flat rs ∙ rw (length-requests_in (field_length_in p) k (drop (requests_at p) p)) in
    let s = r.size in
    let i = requests-in v p r in
    let h = div-le_self (requests_end p - requests_at p) (2 * field_length_in p) in
    rw (l, ne_eqb (2 * k % 2) 1 (λ z. omega arith), le-ltb 8192 (2 * k) (omega arith))

-- Writing what was read gives back every octet, for everything the reader accepts: the writer, given what the packet says, its
-- requests as a flat list and a buffer of the packet's length, accepts it and leaves the packet in the buffer.
pub written_read :
    (v : Edition) (p buf : List ℕ)
    → AllOctets p
    → (read_outcome v p).number ≡ 0
    → length buf ≡ length p
    → (write_outcome (flat (packet_requests p)) (nak_in v p) (length buf) ≡ accepted (length p ∷ []))
    × (written (flat (packet_requests p)) (nak_in v p) buf ≡ p)
    × (pairs (flat (packet_requests p)) ≡ packet_requests p)
written_read v p buf a z e =
    let r = read_of v p z in
    let f = pdu_forth v p a r in
    let w = rw f at (fine_write (flat (packet_requests p)) (nak_in v p) (length buf) (record { list = good-requests v p r; says = fine_in v p a r; size = rw f e })) in
    (w, rw (w, f), pairs-flat (packet_requests p))
