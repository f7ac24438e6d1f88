-- One pair more is merged with each turn, and the places of those that are gone are cleared.
use Rattle.std.proofs.Common.{◌≡◌, ◌∙◌, sym, ap, length, arith}
use Rattle.ranges.specs.Insert.{join}
use Rattle.ranges.specs.Store.{counted, stored}
use Rattle.ranges.proofs.Flat.{at, length-counted}
use Rattle.coalescing.proofs.MergedSoFar.{MergedSoFar, whole, finish}
use Rattle.coalescing.proofs.MergeLoop.{pass-begin, pass_step}
use Rattle.coalescing.proofs.inner.merge_ascending.Goals as goal

pub loop-k-init : goal.loop-k-init
loop-k-init c = pass-begin c.args.list.now c.args.n

pub loop-k-preserved : goal.loop-k-preserved
loop-k-preserved c =
    let o = c.loop-k in
    let p = c.put_last-m.ensures in
    -- what `put_last` leaves is the list with that pair merged
    let value : c.put_last-m.result ≡ length (join (at o.list o.k) (counted o.list o.m)) =
    rw (sym c.start_at-s.ensures, sym c.end_at-e.ensures) p.value in
    let after : c.put_last-m.new.list ≡ stored (join (at o.list o.k) (counted o.list o.m)) o.m o.list =
    rw (sym c.start_at-s.ensures, sym c.end_at-e.ensures) p.list_after in
    pass_step c.args.list.now o.list _ c.args.n o.m o.k _ (omega arith) c.requires.ascending c.loop-k-test.true o.invariant value after

pub returns : goal.returns
returns c =
    let o = c.loop-k in
    let a = c.args in
    let u = o.invariant.going.few in
    let e : o.k ≡ a.n = omega arith in
    let g : MergedSoFar a.list.now o.list a.n o.m a.n = rw e at o.invariant.going in
    let s = g.same in
    let v = g.less in
    let r = length-counted o.list o.m (omega arith) in
    record {
      value = sym r ∙ ap length (whole a.list.now o.list a.n o.m (omega arith) g);
      list_after = finish a.list.now o.list _ a.n o.m (omega arith) g c.tidy.ensures;
    }
