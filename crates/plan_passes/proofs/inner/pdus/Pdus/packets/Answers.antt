-- The lengths sum to the octets, and there are as many packets as lengths.
use native.Mathlib.Omega.{arith}
use Rattle.plan_passes.proofs.Packets.{length-packets}
use Rattle.plan_passes.proofs.Sums.{start_sum}
use Rattle.plan_passes.proofs.inner.pdus.Pdus.packets.Goals as goal

pub invariant_of-result : goal.invariant_of-result
invariant_of-result c = record { room = omega (arith, start_sum c.args.self.now.lengths.now, c.args.self.now.whole) }

pub returns-clause-few : goal.returns-clause-few
returns-clause-few c = let p = c.args.self.now in omega (arith, length-packets p.lengths.now p.buf.now, p.few)
