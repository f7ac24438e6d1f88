-- The numbers passed stand in the buffer, f octets each.
use Rattle.std.proofs.Common.{◌≡◌, ◌+◌, ◌*◌, take}
use Rattle.octets.specs.Octets.{fields, with_octets}
use Rattle.octets.proofs.inner.put_all.Given as goal

abbrev pub invariant-loop-v : goal.invariant-loop-v
invariant-loop-v l = (l.place ≡ l.at + l.f * l.v-index) × (l.buf ≡ with_octets l.fn.buf l.at (fields l.f (take l.v-index l.v-items)))
