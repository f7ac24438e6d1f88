-- `crc::go_on`: the octets that are left take r to what all of them take the first remainder to; and the table's entries are the
-- remainders of their places.
use Rattle.std.proofs.Common.{◌≡◌, ◌^◌, ◌<◌, ℕ, length, get_or, drop}
use Rattle.crc.specs.Crc.{bits_of, message, divided}
use Rattle.crc.proofs.go_on.Given as goal

abbrev pub invariant-loop-octet : goal.invariant-loop-octet
invariant-loop-octet l =
    (l.r < 2 ^ 16) × (length l.remainders ≡ 256) × ((k : ℕ) → k < 256 → get_or l.remainders k 0 ≡ divided 0 (bits_of k))
    × (divided l.r (message (drop l.octet-index l.octet-items)) ≡ divided l.crc (message l.octet-items))
