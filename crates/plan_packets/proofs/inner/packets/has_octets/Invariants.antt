-- The lengths ahead are what is left exactly if all are the octets.
use mathlib.Core.Path.{◌≡◌}
use lib.Dec.{eqb}
use Rattle.holding.proofs.Counting.{lengths}
use Rattle.nak_parsing.specs.Step.{requests_given}
use Rattle.plan_packets.specs.Requests.{ahead}
use Rattle.plan_packets.proofs.inner.packets.has_octets.Given as goal

abbrev pub invariant-loop-s : goal.invariant-loop-s
invariant-loop-s l = eqb (lengths (ahead l.s-iterator)) l.left ≡ eqb (lengths (requests_given l.fn.edition l.packet)) l.fn.octets
