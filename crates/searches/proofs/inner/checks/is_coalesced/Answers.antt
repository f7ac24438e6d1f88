-- `is_coalesced` meets its contract: all pairs are coalesced exactly if this one may follow and those behind it may.
use Rattle.std.proofs.Common.{arith, add-one, ◌≡◌, sym, ◌∙◌, true, false, ◌&&◌, leb, ltb}
use Rattle.ranges.specs.Inner.Checks.{bound}
use Rattle.ranges.specs.Range.{is_above}
use Rattle.ranges.specs.Store.{start_at, end_at}
use Rattle.ranges.proofs.Flat.{scan₂, drop-counted}
use Rattle.searches.proofs.inner.checks.is_coalesced.Goals as goal

pub loop-i-preserved : goal.loop-i-preserved
loop-i-preserved c =
    let a = c.args in
    let l = c.loop-i in
    let xs = a.list.now in
    let s : (leb (bound l.i l.prev) (start_at xs l.i) && ltb (start_at xs l.i) (end_at xs l.i)) ≡ true =
    rw (sym c.start_at.ensures, sym c.end_at-e.ensures) (sym c.may_follow.ensures ∙ c.if-may_follow.true) in
    let on = sym (rw s at (scan₂ (is_above (bound l.i l.prev)) xs a.count l.i (omega arith) (omega arith))) ∙ l.invariant.1 in
    (omega arith, rw (c.end_at-e.ensures, add-one l.i) (rw (add-one l.i) at on))

pub returns-else-may_follow : goal.returns-else-may_follow
returns-else-may_follow c =
    let a = c.args in
    let l = c.loop-i in
    let xs = a.list.now in
    let s : (leb (bound l.i l.prev) (start_at xs l.i) && ltb (start_at xs l.i) (end_at xs l.i)) ≡ false =
    rw (sym c.start_at.ensures, sym c.end_at-e.ensures) (sym c.may_follow.ensures ∙ c.if-may_follow.false) in
    sym (rw s at (scan₂ (is_above (bound l.i l.prev)) xs a.count l.i (omega arith) (omega arith))) ∙ l.invariant.1

pub returns : goal.returns
returns c =
    let a = c.args in
    let l = c.loop-i in
    let e : l.i ≡ a.count = omega arith in
    rw (e, drop-counted a.list.now a.count (omega arith)) at l.invariant.1
