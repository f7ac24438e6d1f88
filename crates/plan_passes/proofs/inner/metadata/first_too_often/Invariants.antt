-- The PDUs before PDU k ask for metadata so many times, not too often.
use Prim.Native.Nat.{◌≤◌}
use mathlib.Core.Path.{◌≡◌}
use lib.ListN.{length, drop}
use Rattle.std.specs.Iterator.Adapters.{enumerate_source, enumerate_count}
use Rattle.nak.specs.Request.{metadata_asked}
use Rattle.planning.specs.Plan.{asked_before, start_of}
use Rattle.planning.specs.Tests.{first_below, is_too_often}
use Rattle.plan_passes.specs.Packets.{packets_in}
use Rattle.plan_passes.specs.Pdus.{plan_of}
use Rattle.plan_passes.proofs.inner.metadata.first_too_often.Given as goal

abbrev pub invariant-loop-k : goal.invariant-loop-k
invariant-loop-k l =
    let k = enumerate_count l.k-iterator in
    let s = enumerate_source l.k-iterator in
    let p = l.pdus in
    (packets_in s.lengths.now s.octets.now ≡ drop k (packets_in p.lengths.now p.buf.now))
    × (k ≤ length p.lengths.now)
    × (first_below (is_too_often (plan_of p) l.w) k ≡ k)
    × (l.times ≡ metadata_asked (asked_before (plan_of p) k))
    × (l.times ≤ start_of p.lengths.now k)
