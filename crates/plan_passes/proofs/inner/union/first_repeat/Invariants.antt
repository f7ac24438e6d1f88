-- The list holds the maximal runs of what is asked before PDU k, without a repeat.
use Prim.Native.Nat.{◌≤◌, ◌*◌}
use mathlib.Core.Path.{◌≡◌}
use lib.ListN.{length, drop}
use Rattle.std.specs.Iterator.Adapters.{enumerate_source, enumerate_count}
use Rattle.ranges.specs.Store.{counted}
use Rattle.segment_store.specs.Coalesce.{maximal_runs}
use Rattle.planning.specs.Plan.{asked_before, start_of}
use Rattle.planning.specs.Tests.{first_below, is_repeat}
use Rattle.planning.specs.Check.{room_for}
use Rattle.plan_passes.specs.Packets.{packets_in}
use Rattle.plan_passes.specs.Pdus.{plan_of}
use Rattle.plan_passes.proofs.inner.union.first_repeat.Given as goal

abbrev pub invariant-loop-k : goal.invariant-loop-k
invariant-loop-k l =
    let k = enumerate_count l.k-iterator in
    let s = enumerate_source l.k-iterator in
    let p = l.pdus in
    (packets_in s.lengths.now s.octets.now ≡ drop k (packets_in p.lengths.now p.buf.now))
    × (k ≤ length p.lengths.now)
    × (first_below (is_repeat (plan_of p)) k ≡ k)
    × (counted l.scratch l.m ≡ maximal_runs (asked_before (plan_of p) k))
    × (8 * l.m ≤ start_of p.lengths.now k)
    × (drop (2 * room_for p.buf.now) l.scratch ≡ drop (2 * room_for p.buf.now) l.fn.scratch)
