-- PDU by PDU the metadata asked for is counted.
use mathlib.Core.Path.{sym, ap, ◌∙◌}
use Prim.Native.Nat.{ℕ}
use native.Mathlib.Numerals.{add-one}
use native.Mathlib.Omega.{arith}
use lib.ListN.{length}
use borrow.Author.Tests.{lt-ltb, le-ltb}
use Rattle.nak.specs.Request.{metadata_asked}
use Rattle.planning.specs.Plan.{asked_before}
use Rattle.planning.specs.Tests.{first_below, is_too_often}
use Rattle.planning.proofs.Firsts.{first_more, first_early}
use Rattle.plan_passes.specs.Pdus.{plan_of}
use Rattle.plan_passes.proofs.Metadata.{asked-more}
use Rattle.plan_passes.proofs.Packets.{turn, ended}
use Rattle.plan_passes.proofs.inner.metadata.first_too_often.Goals as goal

pub overflow_add-times : goal.overflow_add-times
overflow_add-times c =
    let i = c.loop-k.invariant in
    let q = c.in-Some.ensures.steps in
    let p = c.args.pdus.now in
    let t = turn p.lengths.now p.buf.now _ (sym i.0 ∙ q.0) in
    omega (arith, t.grown, t.within, i.4, c.metadata_in-times.ensures.upper_bound, p.whole)

pub returns-then-w-times : goal.returns-then-w-times
returns-then-w-times c =
    let i = c.loop-k.invariant in
    let q = c.in-Some.ensures.steps in
    let p = c.args.pdus.now in
    let t = turn p.lengths.now p.buf.now _ (sym i.0 ∙ q.0) in
    let m = asked-more (plan_of p) _ c.loop-k.times c.metadata_in-times.result t.is i.3 c.metadata_in-times.ensures.value in
    let f = first_early (is_too_often (plan_of p) c.args.w) _ (length p.lengths.now) i.2 (lt-ltb _ _ (omega (arith, m, c.if-w-times.true))) t.inside in
    (q.1 ∙ sym f, rw q.1 t.inside)

pub loop-k-preserved : goal.loop-k-preserved
loop-k-preserved c =
    let i = c.loop-k.invariant in
    let q = c.in-Some.ensures.steps in
    let p = c.args.pdus.now in
    let t = turn p.lengths.now p.buf.now _ (sym i.0 ∙ q.0) in
    let m = asked-more (plan_of p) _ c.loop-k.times c.metadata_in-times.result t.is i.3 c.metadata_in-times.ensures.value in
    rw q.2 (
      t.rest,
      omega (arith, t.inside),
      first_more (is_too_often (plan_of p) c.args.w) _ i.2 (le-ltb _ _ (omega (arith, m, c.if-w-times.false))),
      rw add-one m,
      omega (arith, i.4, t.grown, c.metadata_in-times.ensures.upper_bound),
    )

pub returns : goal.returns
returns c =
    let i = c.loop-k.invariant in
    let p = c.args.pdus.now in
    let e = ended p.lengths.now p.buf.now _ (sym i.0 ∙ c.in-None.ensures.steps.0.0) i.1 in
    (ap (first_below (is_too_often (plan_of p) c.args.w)) (sym e) ∙ i.2 ∙ e, i.3 ∙ ap (λ (k : ℕ). metadata_asked (asked_before (plan_of p) k)) e)
