-- What is left to be put, put into the list as it is now, gives what all of it put into the list at entry gives.
use Rattle.std.proofs.Common.{◌≡◌}
use Rattle.octets.proofs.Turns.{putting}
use Rattle.octets.proofs.inner.put.Given as goal

abbrev pub invariant-loop-i : goal.invariant-loop-i
invariant-loop-i l = putting l.buf l.at l.i l.rest ≡ putting l.fn.buf l.at l.f l.v
