-- v is the number of the octets passed.
use Rattle.std.proofs.Common.{◌≡◌, ◌^◌, ◌<◌, take}
use Rattle.octets.specs.Octets.{number}
use Rattle.octets.proofs.inner.get.Given as goal

abbrev pub invariant-loop-octet : goal.invariant-loop-octet
invariant-loop-octet l = (l.v ≡ number (take l.octet-index l.octet-items)) × (l.v < 256 ^ l.octet-index)
