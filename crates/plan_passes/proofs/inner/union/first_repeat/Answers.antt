-- PDU by PDU the runs take in its requests.
use mathlib.Core.Path.{sym, ap, ◌∙◌}
use native.Mathlib.Numerals.{add-one}
use native.Mathlib.Omega.{arith}
use Prim.Native.Nat.{ℕ, ◌+◌, ◌*◌, ◌≤◌}
use lib.ListN.{length}
use borrow.Author.Rules.{rules}
use Rattle.segment_store.specs.Coalesce.{maximal_runs}
use Rattle.segment_store.proofs.coalesce.Meaning.{runs-coalesced}
use Rattle.planning.specs.Plan.{start_of, asked_before}
use Rattle.planning.specs.Tests.{first_below, is_repeat}
use Rattle.planning.specs.Check.{room_for}
use Rattle.planning.proofs.Firsts.{first_more, first_early}
use Rattle.plan_packets.proofs.Pushed.{drop-later}
use Rattle.plan_passes.specs.Pdus.{plan_of}
use Rattle.plan_passes.proofs.Packets.{turn, ended}
use Rattle.plan_passes.proofs.Runs.{runs_none, repeat-is, runs-join}
use Rattle.plan_passes.proofs.inner.union.first_repeat.Goals as goal

pub loop-k-init : goal.loop-k-init
loop-k-init c = search (rules, runs_none)

pub take_in-requires-clause-packet_in_bounds : goal.take_in-requires-clause-packet_in_bounds
take_in-requires-clause-packet_in_bounds c =
    let i = c.loop-k.invariant in
    let p = c.args.pdus.now in
    let t = turn p.lengths.now p.buf.now _ (sym i.0 ∙ c.in-Some.ensures.steps.0) in
    omega (arith, t.grown, t.within, i.4, p.whole, c.requires, c.loop-k.auto.scratch)

pub take_in-requires-clause-coalesced : goal.take_in-requires-clause-coalesced
take_in-requires-clause-coalesced c = let i = c.loop-k.invariant in (rw i.3 (runs-coalesced _), omega arith)

pub returns-in_default-clause-runs : goal.returns-in_default-clause-runs
returns-in_default-clause-runs c =
    let i = c.loop-k.invariant in
    let q = c.in-Some.ensures.steps in
    let p = c.args.pdus.now in
    let t = turn p.lengths.now p.buf.now _ (sym i.0 ∙ q.0) in
    let f = first_early (is_repeat (plan_of p)) _ (length p.lengths.now) i.2 (sym (repeat-is (plan_of p) _ t.is i.3) ∙ c.in_default.ensures.runs) t.inside in
    (q.1 ∙ sym f, rw q.1 t.inside)

pub returns-in_default-clause-scratch_unchanged : goal.returns-in_default-clause-scratch_unchanged
returns-in_default-clause-scratch_unchanged c =
    let i = c.loop-k.invariant in
    let p = c.args.pdus.now in
    let t = turn p.lengths.now p.buf.now _ (sym i.0 ∙ c.in-Some.ensures.steps.0) in
    let b : 2 * (c.loop-k.m + room_for c.in-Some.packet.now) ≤ 2 * room_for p.buf.now = omega (arith, t.grown, t.within, i.4, p.whole) in
    drop-later _ _ _ _ b c.take_in.ensures.scratch_unchanged ∙ i.5

pub loop-k-preserved : goal.loop-k-preserved
loop-k-preserved c =
    let i = c.loop-k.invariant in
    let q = c.in-Some.ensures.steps in
    let p = c.args.pdus.now in
    let t = turn p.lengths.now p.buf.now _ (sym i.0 ∙ q.0) in
    let w = c.in-Some-take_in.ensures.runs in
    let b : 2 * (c.loop-k.m + room_for c.in-Some.packet.now) ≤ 2 * room_for p.buf.now = omega (arith, t.grown, t.within, i.4, p.whole) in
    rw q.2 (
      t.rest,
      omega (arith, t.inside),
      first_more (is_repeat (plan_of p)) _ i.2 (sym (repeat-is (plan_of p) _ t.is i.3) ∙ w.0),
      rw add-one (w.1 ∙ runs-join (plan_of p) _ t.is i.3),
      omega (arith, i.4, t.grown, w.2),
      drop-later _ _ _ _ b c.take_in.ensures.scratch_unchanged ∙ i.5,
    )

pub returns : goal.returns
returns c =
    let i = c.loop-k.invariant in
    let p = c.args.pdus.now in
    let e = ended p.lengths.now p.buf.now _ (sym i.0 ∙ c.in-None.ensures.steps.0.0) i.1 in
    let s = ap (start_of p.lengths.now) e in record {
      runs = (
        ap (first_below (is_repeat (plan_of p))) (sym e) ∙ i.2 ∙ e,
        i.3 ∙ ap (λ (k : ℕ). maximal_runs (asked_before (plan_of p) k)) e,
        omega (arith, i.4, s, p.whole, c.requires, c.loop-k.auto.scratch),
      );
      scratch_unchanged = i.5;
    }
