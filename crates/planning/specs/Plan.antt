-- What mission planning proposes (document 02, C-23): PDUs back to back with a list of their lengths, on a link of an edition.
use Rattle.std.specs.Prelude.{ℕ, zero, suc, ◌+◌, ◌-◌, List, [], ◌∷◌, ◌++◌, length, get_or, take, drop}
use Rattle.ranges.specs.Range.{Range, range}
use Rattle.nak.specs.declared.Edition.{Edition}
use Rattle.nak.specs.declared.Identity.{Identity}
use Rattle.nak_parsing.specs.declared.Parsed.{Parsed}
use Rattle.nak_parsing.specs.Parser.{parsed_of}
use Rattle.nak_parsing.specs.Step.{requests_given}

pub record Plan : Type 0 where
  pub edition : Edition
  pub lengths : List ℕ
  pub octets : List ℕ

abbrev pub plan : Edition → List ℕ → List ℕ → Plan
plan v ls os = record { edition = v; lengths = ls; octets = os }

-- The number of PDUs. They are counted from 0.
abbrev pub pdus : Plan → ℕ
pdus p = length p.lengths

-- Where PDU k starts: behind the lengths of those before it. Where there are k lengths, that is their sum.
abbrev pub start_of : List ℕ → ℕ → ℕ
start_of ls zero = 0
start_of ls (suc k) = start_of ls k + get_or ls k 0

-- The octets from place a up to but not including place b.
abbrev pub octets_from : ℕ → ℕ → List ℕ → List ℕ
octets_from a b os = take (b - a) (drop a os)

-- The octets of PDU k: as many as its length says.
abbrev pub packet_in : List ℕ → List ℕ → ℕ → List ℕ
packet_in ls os k = octets_from (start_of ls k) (start_of ls k + get_or ls k 0) os

abbrev pub packet : Plan → ℕ → List ℕ
packet p k = packet_in p.lengths p.octets k

-- What reading hands back of PDU k: refusal 0 where it reads, its identity, its scope.
abbrev pub read_in : Plan → ℕ → Parsed
read_in p k = parsed_of p.edition (packet p k)

abbrev pub identity_in : Plan → ℕ → Identity
identity_in p k = (read_in p k).identity

abbrev pub scope_of : Plan → ℕ → Range
scope_of p k = range (read_in p k).scope_start (read_in p k).scope_end

-- The requests of PDU k.
abbrev pub requests_of : Plan → ℕ → List Range
requests_of p k = requests_given p.edition (packet p k)

-- The requests of the PDUs before PDU k, in order.
abbrev pub asked_before : Plan → ℕ → List Range
asked_before p zero = []
asked_before p (suc k) = asked_before p k ++ requests_of p k

-- The requests of all PDUs.
abbrev pub asked : Plan → List Range
asked p = asked_before p (pdus p)

-- The lengths of some packets.
abbrev pub lengths_of : List (List ℕ) → List ℕ
lengths_of [] = []
lengths_of (p ∷ ps) = length p ∷ lengths_of ps
