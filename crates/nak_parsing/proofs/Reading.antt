-- What the checks of reading show: those of the shape, and of a packet that is accepted.
use mathlib.Core.Path.{◌≡◌, refl, ◌∙◌}
use mathlib.Core.Bool.{Bool, true, false, cond}
use mathlib.Core.List.{List, [], ◌∷◌, ◌++◌}
use Prim.Native.Nat.{ℕ, ◌+◌, ◌*◌, ◌-◌, ◌/◌, ◌%◌, ◌≤◌, ◌<◌}
use native.Mathlib.Omega.{arith}
use lib.Dec.{ltb}
use lib.ListN.{length, take, drop, length-drop}
use lib.Seq.{length-take-le}
use borrow.Author.Tests.{eqb-true, ltb-false, le-ltb, eq-eqb, ne_eqb, not-false}
use Rattle.ranges.proofs.Test.{or_false}
use Rattle.ranges.specs.Range.{range}
use Rattle.outcomes.specs.Outcome.{Outcome, accepted}
use Rattle.outcomes.specs.Refusal.{refusing}
use Rattle.outcomes.specs.Checks.{Check, first_of, NoneOf}
use Rattle.outcomes.specs.declared.Refusal.TheVariants as refusal
use Rattle.outcomes.proofs.FirstOf.{first-append, first-none, first-accepted}
use Rattle.octets.specs.Octets.{AllOctets}
use Rattle.nak.proofs.Room as room
use Rattle.octets.proofs.Fields.{number-below, octets-take, octets-drop}
use Rattle.nak.specs.declared.Identity.{Identity}
use Rattle.nak.specs.declared.Edition.{Edition}
use Rattle.nak.specs.Header.{wrong_fixed}
use Rattle.nak.specs.Pdu.{nak_code}
use Rattle.nak.specs.Request.{requests_checks}
use Rattle.nak.specs.Writer.{largest_pdu}
use Rattle.nak.proofs.Checks.{none-append}
use Rattle.nak_parsing.specs.Parser.{octet_at, field_at, packet_flag, packet_crc, trailer_in, field_length_in, entity_length_in, number_length_in, header_length_in, length_field}
use Rattle.nak_parsing.specs.Parser.{scope_at, behind_scope, requests_at, requests_end, requests_in, packet_identity, scope_in, packet_requests, is_wrong_length, wrong_length}
use Rattle.nak_parsing.specs.Parser.{wrong_trailer, is_wrong_data, wrong_data, shape_checks, read_checks, read_outcome}

-- an identity of these lengths and numbers
abbrev pub identity_of : ℕ → ℕ → ℕ → ℕ → ℕ → Identity
identity_of i q s n d = record { entity_length = i; number_length = q; source = s; number = n; destination = d }

module _ (p : List ℕ) where
  -- the values that the code finds are those of the definition
  pub is-scope : {at f a b : ℕ} → at ≡ header_length_in p + 1 → f ≡ field_length_in p → a ≡ field_at p at f → b ≡ field_at p (at + f) f → range a b ≡ scope_in p
  unfolding scope_in scope_at
  is-scope h f a b = rw (a, b, h, f)

  pub is-place : {at f : ℕ} → at ≡ header_length_in p + 1 → f ≡ field_length_in p → behind_scope at f ≡ requests_at p
  unfolding requests_at scope_at
  is-place h f = rw (h, f)

  pub is-requests : {at to f : ℕ} → at ≡ requests_at p → to ≡ requests_end p → f ≡ field_length_in p
      → requests_in f ((to - at) / (2 * f)) (drop at p) ≡ packet_requests p
  unfolding packet_requests
  is-requests a e f = rw (a, e, f)

  pub is-identity :
      {i q source number destination : ℕ}
      → i ≡ entity_length_in p
      → q ≡ number_length_in p
      → source ≡ field_at p 4 i
      → number ≡ field_at p (4 + i) q
      → destination ≡ field_at p (4 + i + q) i
      → identity_of i q source number destination ≡ packet_identity p
  unfolding packet_identity
  is-identity i q s n d = rw (s, n, d, i, q)

  pub is-length : {h len t : ℕ} → h ≡ header_length_in p → len ≡ length_field p → t ≡ trailer_in p → is_wrong_length (length p) h len t ≡ wrong_length p
  unfolding wrong_length
  is-length h l t = rw (h, l, t)

  pub is_data : {len t f : ℕ} → len ≡ length_field p → t ≡ trailer_in p → f ≡ field_length_in p → is_wrong_data (len - t) f ≡ wrong_data p
  unfolding wrong_data
  is_data l t f = rw (l, t, f)

  pub is-end : {t : ℕ} → t ≡ trailer_in p → length p - t ≡ requests_end p
  unfolding requests_end
  is-end t = rw t

  pub end-high : requests_end p ≤ length p
  unfolding requests_end
  end-high = omega arith

  -- the trailer has two octets or none
  pub trailer-high : trailer_in p ≤ 2
  unfolding trailer_in
  trailer-high = go (packet_crc p)
    where
      go : (t : Bool) → cond t 2 0 ≤ 2
      go true = omega arith
      go false = omega arith

  -- bounds
  pub field-low : 4 ≤ field_length_in p
  unfolding field_length_in
  field-low = room.field-low (packet_flag p)

  pub field-high : field_length_in p ≤ 8
  unfolding field_length_in
  field-high = room.field-high (packet_flag p)

  pub entity_low : 1 ≤ entity_length_in p
  unfolding entity_length_in
  entity_low = omega arith

  pub entity_high : entity_length_in p ≤ 8
  unfolding entity_length_in
  entity_high = omega arith

  pub number-low : 1 ≤ number_length_in p
  unfolding number_length_in
  number-low = omega arith

  pub number-high : number_length_in p ≤ 8
  unfolding number_length_in
  number-high = omega arith

  pub header_is : header_length_in p ≡ 4 + 2 * entity_length_in p + number_length_in p
  unfolding header_length_in
  header_is = refl

  pub header-high : header_length_in p ≤ 28
  header-high = let a = entity_high in let b = number-high in let h = header_is in omega arith

  pub length-low : AllOctets p → 4 ≤ length p → length_field p < 65536
  unfolding length_field
  length-low a h =
      let o = octets-take 2 (drop 1 p) (octets-drop 1 p a) in
      let n = number-below (take 2 (drop 1 p)) o in
      let l : length (take 2 (drop 1 p)) ≡ 2 = length-take-le 2 (drop 1 p) (simp length-drop (omega arith)) in
      rw l at n

  -- what 16 leaves
  pub right_length : wrong_length p ≡ false → (1 + trailer_in p ≤ length_field p) × (length p ≡ header_length_in p + length_field p)
  unfolding wrong_length
  right_length e =
      let t = or_false (ltb (length_field p) (1 + trailer_in p)) _ e in
      (ltb-false (length_field p) (1 + trailer_in p) t.0, eqb-true (length p) (header_length_in p + length_field p) (not-false _ t.1))

  pub right_data : wrong_data p ≡ false
      → (1 + 2 * field_length_in p ≤ length_field p - trailer_in p) × ((length_field p - trailer_in p - (1 + 2 * field_length_in p)) % (2 * field_length_in p) ≡ 0)
  unfolding wrong_data
  right_data e =
      let t = or_false (ltb (length_field p - trailer_in p) (1 + 2 * field_length_in p)) _ e in
      (ltb-false (length_field p - trailer_in p) (1 + 2 * field_length_in p) t.0, eqb-true _ 0 (not-false _ t.1))

-- a packet whose shape is right
pub record Shape (e : Edition) (p : List ℕ) : Type 0 where
  pub enough : 4 ≤ length p
  pub fixed : wrong_fixed e (octet_at p 0) (octet_at p 3) ≡ false
  pub some : 1 + trailer_in p ≤ length_field p
  pub total : length p ≡ header_length_in p + length_field p
  pub trailer : wrong_trailer p ≡ false
  pub code : octet_at p (header_length_in p) ≡ nak_code
  pub room : 1 + 2 * field_length_in p ≤ length_field p - trailer_in p
  pub whole : (length_field p - trailer_in p - (1 + 2 * field_length_in p)) % (2 * field_length_in p) ≡ 0
  pub none : NoneOf (shape_checks e p)

pub shape_of : (e : Edition) (p : List ℕ) → NoneOf (shape_checks e p) → Shape e p
shape_of e p n =
    let total = right_length p n.1.1.0 in
    let field = right_data p n.1.1.1.1.1.0 in
    record {
      enough = ltb-false (length p) 4 n.0;
      fixed = n.1.0;
      some = total.0;
      total = total.1;
      trailer = n.1.1.1.0;
      code = eqb-true (octet_at p (header_length_in p)) nak_code (not-false _ n.1.1.1.1.0);
      room = field.0;
      whole = field.1;
      none = n;
    }

-- which refusal comes first: where the lengths are right, 21, whatever the directive code is; and then 17, whatever the data field is
module _ (e : Edition) (p : List ℕ) (behind : Outcome) (enough : 4 ≤ length p) (fixed : wrong_fixed e (octet_at p 0) (octet_at p 3) ≡ false) where
  pub trailer-first : wrong_length p ≡ false → wrong_trailer p ≡ true → first_of (shape_checks e p) behind ≡ refusing refusal.BadTrailer
  trailer-first l t = rw (le-ltb (length p) 4 enough, fixed, l, t)

  pub directive_first :
      wrong_length p ≡ false
      → wrong_trailer p ≡ false
      → (octet_at p (header_length_in p) ≡ nak_code → ⊥)
      → first_of (shape_checks e p) behind ≡ refusing refusal.NotNak
  directive_first l t c = rw (le-ltb (length p) 4 enough, fixed, l, t, ne_eqb (octet_at p (header_length_in p)) nak_code c)

-- the checks behind the scope, and those from it on
abbrev pub size_check : List ℕ → List Check
size_check p = (ltb largest_pdu (length p), refusal.PduSize) ∷ []

abbrev pub scope_checks : List ℕ → List Check
scope_checks p = (ltb (scope_in p).end (scope_in p).start, refusal.ScopeReversed) ∷ requests_checks (packet_requests p) ++ size_check p

-- the shape is asked, and then these
pub in_order : (e : Edition) (p : List ℕ) → read_outcome e p ≡ first_of (shape_checks e p) (first_of (scope_checks p) (accepted []))
unfolding read_outcome
in_order e p = first-append (shape_checks e p) (scope_checks p) (accepted [])

-- where the shape is right, the scope is asked
pub from-scope : (e : Edition) (p : List ℕ) → Shape e p → read_outcome e p ≡ first_of (scope_checks p) (accepted [])
from-scope e p s = in_order e p ∙ first-none (shape_checks e p) (first_of (scope_checks p) (accepted [])) s.none

-- where the scope is right too, the requests
pub from-requests : (e : Edition) (p : List ℕ) → Shape e p → (scope_in p).start ≤ (scope_in p).end → read_outcome e p ≡ first_of (requests_checks (packet_requests p)) (first_of (size_check p) (accepted []))
from-requests e p s b = rw (from-scope e p s, le-ltb (scope_in p).end (scope_in p).start b) (first-append (requests_checks (packet_requests p)) (size_check p) (accepted []))

-- and where they are, the size
pub from-size : (e : Edition) (p : List ℕ) → Shape e p → (scope_in p).start ≤ (scope_in p).end → NoneOf (requests_checks (packet_requests p)) → read_outcome e p ≡ first_of (size_check p) (accepted [])
from-size e p s b n = from-requests e p s b ∙ first-none (requests_checks (packet_requests p)) (first_of (size_check p) (accepted [])) n

-- a packet that is accepted
pub record Read (e : Edition) (p : List ℕ) : Type 0 where
  pub shape : Shape e p
  pub scope : (scope_in p).start ≤ (scope_in p).end
  pub requests : NoneOf (requests_checks (packet_requests p))
  pub size : length p ≤ largest_pdu
  pub outcome : read_outcome e p ≡ accepted []

pub read_fine : (e : Edition) (p : List ℕ) → Shape e p → (scope_in p).start ≤ (scope_in p).end → NoneOf (requests_checks (packet_requests p)) → length p ≤ largest_pdu → read_outcome e p ≡ accepted []
read_fine e p s b c d = rw (from-size e p s b c, le-ltb largest_pdu (length p) d)

pub read_of : (e : Edition) (p : List ℕ) → (read_outcome e p).number ≡ 0 → Read e p
unfolding read_outcome
read_of e p z =
    let n = (first-accepted (read_checks e p) (accepted []) (eq-eqb _ 0 z)).0 in
    let m = none-append (shape_checks e p) (scope_checks p) n in
    let w = none-append (requests_checks (packet_requests p)) (size_check p) m.1.1 in
    let s = shape_of e p m.0 in
    record {
      shape = s;
      scope = ltb-false (scope_in p).end (scope_in p).start m.1.0;
      requests = w.0;
      size = ltb-false largest_pdu (length p) w.1.0;
      outcome = first-none (read_checks e p) (accepted []) n;
    }
