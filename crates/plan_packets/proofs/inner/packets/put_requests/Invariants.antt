-- The pairs written and the requests ahead are as at the start, and behind the pairs nothing has changed.
use Prim.Native.Nat.{◌+◌, ◌*◌}
use mathlib.Core.Path.{◌≡◌}
use mathlib.Core.List.{◌++◌}
use lib.ListN.{length, drop}
use Rattle.ranges.specs.Store.{counted}
use Rattle.plan_packets.specs.Requests.{ahead}
use Rattle.plan_packets.proofs.inner.packets.put_requests.Given as goal

abbrev pub invariant-loop-s : goal.invariant-loop-s
invariant-loop-s l = (l.n + length (ahead l.s-iterator) ≡ l.fn.m + length (ahead l.fn.requests))
    × (counted l.scratch l.n ++ ahead l.s-iterator ≡ counted l.fn.scratch l.fn.m ++ ahead l.fn.requests)
    × (drop (2 * l.n) l.scratch ≡ drop (2 * l.n) l.fn.scratch)
