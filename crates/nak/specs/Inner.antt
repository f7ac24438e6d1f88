-- What the inner functions of writing speak of: the requests of one PDU out of a longer flat list.
use Rattle.std.specs.Prelude.{ℕ, ◌*◌, ◌/◌, ◌≤◌, Bool, cond, List, [], ◌∷◌, ◌++◌, length, take, drop}
use Rattle.nak.specs.declared.Asked.{Asked}
use Rattle.nak.specs.declared.Form.{Form}
use Rattle.nak.specs.declared.Identity.{Identity}
use Rattle.nak.specs.Pdu.{Nak, saying}
use Rattle.ranges.specs.Range.{Range, range}
use Rattle.ranges.specs.Store.{pairs}

-- The metadata request, where it is asked for.
abbrev pub metadata_first : Bool → List Range
metadata_first m = cond m (range 0 0 ∷ []) []

-- The pairs of a flat list from `first` on, `count` of them.
abbrev pub pairs_from : List ℕ → ℕ → ℕ → List Range
pairs_from xs first count = pairs (take (2 * count) (drop (2 * first) xs))

-- The requests of a PDU: the one for metadata first, where it is asked for, and then those of the list.
abbrev pub entries : Bool → List ℕ → ℕ → ℕ → List Range
entries m xs first count = metadata_first m ++ pairs_from xs first count

-- Those of what a PDU asks for; an odd last number is no pair.
abbrev pub requests_of : Asked → List Range
requests_of a = entries a.metadata a.requests.now 0 (length a.requests.now / 2)

-- And the NAK that asks for it.
abbrev pub asking : Form → Identity → Asked → Nak
asking g d a = saying g d a.start a.end (requests_of a)

-- Identifier lengths of 1 to 8.
pub record GoodLengths (d : Identity) : Type 0 where
  pub entity_low : 1 ≤ d.entity_length
  pub entity_high : d.entity_length ≤ 8
  pub number-low : 1 ≤ d.number_length
  pub number-high : d.number_length ≤ 8
