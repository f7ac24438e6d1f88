-- The NAK PDU as a list of octets (document 01, "The NAK PDU"; Blue Book, PDU header and 5.2.6; the trailer: document 02, C-11).
use Rattle.std.specs.Prelude.{ℕ, ◌+◌, ◌*◌, ◌-◌, ◌/◌, Bool, cond, List, [], ◌∷◌, ◌++◌, length, ltb}
use Rattle.ranges.specs.Range.{Range, range}
use Rattle.ranges.specs.Store.{flat}
use Rattle.octets.specs.Octets.{field, fields}
use Rattle.octets.specs.Flag.{field_length}
use Rattle.crc.specs.Crc.{crc_of, trailer as crc_trailer}
use Rattle.nak.specs.declared.Form.{Form}
use Rattle.nak.specs.declared.Identity.{Identity}
use Rattle.nak.specs.Header.{octet0, octet3}

-- What a NAK PDU says.
pub record Nak : Type 0 where
  pub form : Form
  pub identity : Identity
  pub scope : Range
  pub requests : List Range

-- The NAK with this form, identity, scope (start and end) and list of requests.
abbrev pub saying : Form → Identity → ℕ → ℕ → List Range → Nak
saying g d a b rs = record { form = g; identity = d; scope = range a b; requests = rs }

-- The directive code of a NAK: 08.
abbrev pub nak_code : ℕ
nak_code = 8

-- The data field: 08, scope start, scope end, requests; a number has f octets.
unfoldable pub data_octets : ℕ → Range → List Range → List ℕ
data_octets f scope rs = field 1 nak_code ++ fields f (scope.start ∷ scope.end ∷ flat rs)

-- The data field of a NAK: F is that of its form.
abbrev pub data_field : Nak → List ℕ
data_field n = data_octets (field_length n.form.flag) n.scope n.requests

-- The octets of the trailer: two where the form has a CRC.
abbrev pub trailer_length : Form → ℕ
trailer_length g = cond g.crc 2 0

-- The header's first four octets: octet 0; octets 1 and 2, the data field length, which counts the trailer; octet 3.
unfoldable pub header_octets : Form → ℕ → ℕ → ℕ → List ℕ
header_octets g i q len = field 1 (octet0 g) ++ (field 2 len ++ field 1 (octet3 i q))

-- The same of a NAK.
abbrev pub header : Nak → List ℕ
header n = header_octets n.form n.identity.entity_length n.identity.number_length (length (data_field n) + trailer_length n.form)

-- Then source entity, sequence number, destination entity, of I, Q and I octets.
unfoldable pub identity_octets : Identity → List ℕ
identity_octets d = field d.entity_length d.source ++ (field d.number_length d.number ++ field d.entity_length d.destination)

-- So the header is H = 4 + 2I + Q octets long.
abbrev pub header_length : ℕ → ℕ → ℕ
header_length i q = 4 + 2 * i + q

-- The data field of a PDU whose requests have so many numbers is this long: 08, scope start, scope end, the numbers.
abbrev pub data_length : ℕ → ℕ → ℕ
data_length f numbers = 1 + f * (2 + numbers)

-- And the PDU: the header, then the data field, then the trailer. By `pdu-length` that is the number of its octets.
abbrev pub pdu_length : Form → Identity → ℕ → ℕ
pdu_length g d numbers = header_length d.entity_length d.number_length + data_length (field_length g.flag) numbers + trailer_length g

-- Requests per PDU: k = (P − H − 1 − 2F) / 2F rounded down, P the largest PDU; with a trailer, P loses two octets to it.
abbrev pub per_pdu : Form → Identity → ℕ → ℕ
per_pdu g d largest = (largest - trailer_length g - header_length d.entity_length d.number_length - 1 - 2 * field_length g.flag) / (2 * field_length g.flag)

-- P below room for one request, which has two numbers.
abbrev pub is_too_small : Form → Identity → ℕ → Bool
is_too_small g d largest = ltb largest (pdu_length g d 2)

-- Header, identity, data field.
abbrev pub front : Nak → List ℕ
front n = header n ++ (identity_octets n.identity ++ data_field n)

-- The trailer of a PDU of this form: the CRC of the octets in front of it, from octet 0 on.
abbrev pub trailer : Form → List ℕ → List ℕ
trailer g os = cond g.crc (crc_trailer (crc_of os)) []

-- The PDU: header, identity, data field, trailer.
unfoldable pub pdu : Nak → List ℕ
pdu n = front n ++ trailer n.form (front n)
