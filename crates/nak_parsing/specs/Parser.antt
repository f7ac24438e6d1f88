-- Reading one PDU (document 01, "Reading"), on a link of either edition and with the CRC trailer or without (document 02, C-20 and C-11).
use Rattle.std.specs.Prelude.{ℕ, zero, suc, ◌+◌, ◌*◌, ◌-◌, ◌/◌, ◌%◌, ◌≡◌, Bool, false, ◌&&◌, ◌||◌, not, cond, List, [], ◌∷◌, ◌++◌, eqb, ltb, length, get_or, take, drop}
use Rattle.std.specs.Borrow.{Bor}
use Rattle.ranges.specs.Range.{Range, range}
use Rattle.outcomes.specs.Outcome.{Outcome, accepted, lent}
use Rattle.outcomes.specs.Checks.{Check, first_of}
use Rattle.outcomes.specs.declared.Refusal.TheVariants as refusal
use Rattle.octets.specs.Octets.{number}
use Rattle.crc.specs.Damage.{ends_in_crc}
use Rattle.octets.specs.Flag.{field_length}
use Rattle.octets.specs.declared.LargeFileFlag.{LargeFileFlag}
use Rattle.octets.specs.declared.LargeFileFlag.TheVariants.{Normal}
use Rattle.nak.specs.declared.Edition.{Edition}
use Rattle.nak.specs.declared.Form.{Form}
use Rattle.nak.specs.declared.Identity.{Identity}
use Rattle.nak_parsing.specs.declared.Parsed.{Parsed}
use Rattle.nak_parsing.specs.declared.Said.{Said}
use Rattle.nak_parsing.specs.declared.inner.Header.{Header}
use Rattle.nak.specs.Header.{wrong_fixed, flag_of, crc_flag_of, entity_length_of, number_length_of}
use Rattle.nak.specs.Pdu.{Nak, nak_code, header_length}
use Rattle.nak.specs.Request.{requests_checks}
use Rattle.nak.specs.Writer.{largest_pdu}

-- The octet at a place.
abbrev pub octet_at : List ℕ → ℕ → ℕ
octet_at p at = get_or p at 0

-- The number in the f octets from a place on.
abbrev pub field_at : List ℕ → ℕ → ℕ → ℕ
field_at p at f = number (take f (drop at p))

-- The flag of a packet, in octet 0.
unfoldable pub packet_flag : List ℕ → LargeFileFlag
packet_flag p = flag_of (octet_at p 0)

-- Whether a packet says that it has a trailer, in octet 0, and so how many octets that has.
unfoldable pub packet_crc : List ℕ → Bool
packet_crc p = crc_flag_of (octet_at p 0)

unfoldable pub trailer_in : List ℕ → ℕ
trailer_in p = cond (packet_crc p) 2 0

-- The form of a packet, by the link's edition.
abbrev pub packet_form : Edition → List ℕ → Form
packet_form e p = record { edition = e; flag = packet_flag p; crc = packet_crc p }

-- F, by the flag.
unfoldable pub field_length_in : List ℕ → ℕ
field_length_in p = field_length (packet_flag p)

-- I and Q, in octet 3.
unfoldable pub entity_length_in : List ℕ → ℕ
entity_length_in p = entity_length_of (octet_at p 3)

unfoldable pub number_length_in : List ℕ → ℕ
number_length_in p = number_length_of (octet_at p 3)

-- H = 4 + 2I + Q.
unfoldable pub header_length_in : List ℕ → ℕ
header_length_in p = header_length (entity_length_in p) (number_length_in p)

-- The length field, octets 1 and 2.
unfoldable pub length_field : List ℕ → ℕ
length_field p = field_at p 1 2

-- What the header's first four octets say.
abbrev pub header_in : Edition → List ℕ → Header
header_in e p =
    record {
      form = packet_form e p;
      entity_length = entity_length_in p;
      number_length = number_length_in p;
      length = header_length_in p;
      data_length = length_field p;
    }

-- Where the scope starts: behind the directive code.
unfoldable pub scope_at : List ℕ → ℕ
scope_at p = header_length_in p + 1

-- The place behind a scope, start and end of f octets each.
abbrev pub behind_scope : ℕ → ℕ → ℕ
behind_scope at f = at + 2 * f

-- Where the requests start: behind the scope.
unfoldable pub requests_at : List ℕ → ℕ
requests_at p = behind_scope (scope_at p) (field_length_in p)

-- And where they end: before the trailer.
unfoldable pub requests_end : List ℕ → ℕ
requests_end p = length p - trailer_in p

-- The first n requests that octets hold: start and end, f octets each.
abbrev pub requests_in : ℕ → ℕ → List ℕ → List Range
requests_in f zero os = []
requests_in f (suc n) os = range (field_at os 0 f) (field_at os f f) ∷ requests_in f n (drop (2 * f) os)

-- Source entity, sequence number, destination entity, of I, Q and I octets.
unfoldable pub packet_identity : List ℕ → Identity
packet_identity p =
    record {
      entity_length = entity_length_in p;
      number_length = number_length_in p;
      source = field_at p 4 (entity_length_in p);
      number = field_at p (4 + entity_length_in p) (number_length_in p);
      destination = field_at p (4 + entity_length_in p + number_length_in p) (entity_length_in p);
    }

-- Scope start, scope end.
unfoldable pub scope_in : List ℕ → Range
scope_in p = range (field_at p (scope_at p) (field_length_in p)) (field_at p (scope_at p + field_length_in p) (field_length_in p))

-- As many requests as there is room for behind the scope and before the trailer.
unfoldable pub packet_requests : List ℕ → List Range
packet_requests p = requests_in (field_length_in p) ((requests_end p - requests_at p) / (2 * field_length_in p)) (drop (requests_at p) p)

-- What a packet says.
abbrev pub nak_in : Edition → List ℕ → Nak
nak_in e p = record { form = packet_form e p; identity = packet_identity p; scope = scope_in p; requests = packet_requests p }

-- 16: packet not H plus the length field, or length field 0; with a trailer of t octets, below 1 + t, so below 3.
abbrev pub is_wrong_length : ℕ → ℕ → ℕ → ℕ → Bool
is_wrong_length total h len t = ltb len (1 + t) || not (eqb total (h + len))

-- The same of a packet.
unfoldable pub wrong_length : List ℕ → Bool
wrong_length p = is_wrong_length (length p) (header_length_in p) (length_field p) (trailer_in p)

-- 21: the packet has a trailer, and that is not the CRC of the octets before it.
unfoldable pub wrong_trailer : List ℕ → Bool
wrong_trailer p = packet_crc p && not (ends_in_crc p)

-- 16: data field not 1 + 2F + a multiple of 2F.
abbrev pub is_wrong_data : ℕ → ℕ → Bool
is_wrong_data len f = ltb len (1 + 2 * f) || not (eqb ((len - (1 + 2 * f)) % (2 * f)) 0)

-- The same of a packet, its trailer left out.
unfoldable pub wrong_data : List ℕ → Bool
wrong_data p = is_wrong_data (length_field p - trailer_in p) (field_length_in p)

-- Reading, up to the scope: below 4 octets 16; any fixed bit of octets 0 and 3 wrong 15; packet not H plus the length field, or
-- length field 0 (below 3 with a trailer), 16; wrong trailer 21; 17; data field not 1 + 2F + a multiple of 2F, 16.
abbrev pub shape_checks : Edition → List ℕ → List Check
shape_checks e p =
    (ltb (length p) 4, refusal.LengthMismatch)
    ∷ (wrong_fixed e (octet_at p 0) (octet_at p 3), refusal.BadHeader)
    ∷ (wrong_length p, refusal.LengthMismatch)
    ∷ (wrong_trailer p, refusal.BadTrailer)
    ∷ (not (eqb (octet_at p (header_length_in p)) nak_code), refusal.NotNak)
    ∷ (wrong_data p, refusal.LengthMismatch)
    ∷ []

-- Reading: these, then 18; requests in order; total above 4,096, 14.
abbrev pub read_checks : Edition → List ℕ → List Check
read_checks e p =
    shape_checks e p
    ++ ((ltb (scope_in p).end (scope_in p).start, refusal.ScopeReversed) ∷ requests_checks (packet_requests p) ++ ((ltb largest_pdu (length p), refusal.PduSize) ∷ []))

unfoldable pub read_outcome : Edition → List ℕ → Outcome
read_outcome e p = first_of (read_checks e p) (accepted [])

-- What an accepted packet says, and where its requests stand: from behind the scope to the packet's end, or its trailer.
unfoldable pub said_in : Edition → List ℕ → Said
said_in e p =
    record {
      identity = packet_identity p;
      form = packet_form e p;
      scope_start = (scope_in p).start;
      scope_end = (scope_in p).end;
      from = requests_at p;
      to = requests_end p;
    }

-- An outcome has no value of it.
abbrev pub nothing_of : Said → List ℕ
nothing_of s = []

-- What reading hands back of a refused packet: the number and what it carries, all else 0 but the link's edition; the reader of the requests stands at
-- its end, the packet's length.
abbrev pub refused_parsed : Edition → Outcome → ℕ → Parsed
refused_parsed e o len =
    record {
      refusal = o.number;
      start = get_or o.values 0 0;
      end = get_or o.values 1 0;
      identity = record { entity_length = 0; number_length = 0; source = 0; number = 0; destination = 0 };
      form = record { edition = e; flag = Normal; crc = false };
      scope_start = 0;
      scope_end = 0;
      from = 0;
      to = 0;
      next = len;
    }

-- And of an accepted one: number 0, and what the packet says. The requests stand from behind the scope to the packet's end, or
-- its trailer.
unfoldable pub accepted_parsed : Edition → List ℕ → Parsed
accepted_parsed e p =
    record {
      refusal = 0;
      start = 0;
      end = 0;
      identity = packet_identity p;
      form = packet_form e p;
      scope_start = (scope_in p).start;
      scope_end = (scope_in p).end;
      from = requests_at p;
      to = requests_end p;
      next = requests_at p;
    }

-- The same, made of what the packet says.
abbrev pub parsed_with : Said → Parsed
parsed_with s =
    record {
      refusal = 0;
      start = 0;
      end = 0;
      identity = s.identity;
      form = s.form;
      scope_start = s.scope_start;
      scope_end = s.scope_end;
      from = s.from;
      to = s.to;
      next = s.from;
    }

-- Either, by the outcome.
abbrev pub parsed : Edition → Outcome → List ℕ → Parsed
parsed e o p = cond (eqb o.number 0) (accepted_parsed e p) (refused_parsed e o (length p))

-- What reading hands back of a packet.
unfoldable pub parsed_of : Edition → List ℕ → Parsed
parsed_of e p = parsed e (read_outcome e p) p

-- What reading hands back of the packet p, on a link of n's edition, is what the NAK n says, and the octets of p hold its requests.
pub record Says (p : List ℕ) (n : Nak) : Type 0 where
  pub refusal : (parsed_of n.form.edition p).refusal ≡ 0
  pub identity : (parsed_of n.form.edition p).identity ≡ n.identity
  pub form : (parsed_of n.form.edition p).form ≡ n.form
  pub scope-start : (parsed_of n.form.edition p).scope_start ≡ n.scope.start
  pub scope-end : (parsed_of n.form.edition p).scope_end ≡ n.scope.end
  pub requests : packet_requests p ≡ n.requests

-- The requests as the caller's own octets: the part of an accepted packet from behind the scope to its end or its trailer, and of a refused one
-- an empty part at octet 0.
abbrev pub requests_part : Edition → List ℕ → List ℕ
requests_part e p = lent (read_outcome e p) (take (requests_end p - requests_at p) (drop (requests_at p) p)) []

-- Where that part starts in the caller's own memory: the packet's block, and the start past its offset.
abbrev pub requests_ptr : Edition → Bor (List ℕ) → ℕ × ℕ
requests_ptr e p = (p.ref_ptr.0, lent (read_outcome e p.now) (requests_at p.now) 0 + p.ref_ptr.1)
