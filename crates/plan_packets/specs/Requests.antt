-- The requests that are still ahead in a packet, as many as its octets have room for.
use Rattle.std.specs.Prelude.{ℕ, ◌*◌, ◌/◌, List, length}
use Rattle.octets.specs.Flag.{field_length}
use Rattle.ranges.specs.Range.{Range, range}
use Rattle.nak_parsing.specs.Parser.{requests_in}
use Rattle.plan_packets.specs.declared.inner.requests.Requests.{Requests}

abbrev pub ahead : Requests → List Range
ahead s = requests_in (field_length s.flag) (length s.octets.now / (2 * field_length s.flag)) s.octets.now

-- A start and an end as a range.
abbrev pub as_range : ℕ × ℕ → Range
as_range p = range p.0 p.1
