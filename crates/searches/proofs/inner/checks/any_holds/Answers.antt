-- `any_holds` meets its contract: the pairs from i on hold (a, b) exactly if this one does or those behind it do.
use Rattle.std.proofs.Common.{arith, ◌≡◌, sym, ◌∙◌, true, false}
use Rattle.ranges.specs.Range.{some, inside}
use Rattle.ranges.proofs.Flat.{at, scan₂, drop-counted}
use Rattle.searches.proofs.inner.checks.any_holds.Goals as goal

pub returns-then-holds : goal.returns-then-holds
returns-then-holds c =
    let a = c.args in
    let l = c.loop-i in
    let s : inside a.a a.b (at a.list.now l.i) ≡ true = rw (sym c.start_at.ensures, sym c.end_at.ensures) (sym c.holds.ensures ∙ c.if-holds.true) in
    sym (rw s at (scan₂ (some (inside a.a a.b)) a.list.now a.count l.i (omega arith) (omega arith))) ∙ l.invariant.1

pub loop-i-preserved : goal.loop-i-preserved
loop-i-preserved c =
    let a = c.args in
    let l = c.loop-i in
    let s : inside a.a a.b (at a.list.now l.i) ≡ false = rw (sym c.start_at.ensures, sym c.end_at.ensures) (sym c.holds.ensures ∙ c.if-holds.false) in
    (omega arith, sym (rw s at (scan₂ (some (inside a.a a.b)) a.list.now a.count l.i (omega arith) (omega arith))) ∙ l.invariant.1)

pub returns : goal.returns
returns c =
    let a = c.args in
    let l = c.loop-i in
    let e : l.i ≡ a.count = omega arith in
    rw (e, drop-counted a.list.now a.count (omega arith)) at l.invariant.1
