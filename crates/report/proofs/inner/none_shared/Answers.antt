-- The first range that ends above a decides.
use Rattle.std.proofs.Common.{◌≡◌, ◌∙◌, sym, ap, not, length, ◌<◌, arith}
use lib.Dec.{leb, ltb}
use borrow.Author.Tests.{eq-eqb}
use Rattle.ranges.specs.Range.{Range}
use Rattle.ranges.specs.Store.{counted, start_at}
use Rattle.ranges.specs.Inner.Cut.{first}
use Rattle.ranges.proofs.Flat.{length-counted, get_or-counted}
use Rattle.report.proofs.Shared.{at-or-above, none-past, first-shares}
use Rattle.report.proofs.inner.none_shared.Goals as goal

pub returns-then-i-count : goal.returns-then-i-count
returns-then-i-count c =
    let a = c.args in
    let rs = counted a.list.now a.count in
    let e : first a.a rs ≡ length rs =
    sym c.first_past-i.ensures.value ∙ c.if-i-count.true ∙ sym (length-counted a.list.now a.count c.requires.count_in_bounds) in
    eq-eqb _ _ c.if-i-count.true ∙ sym (ap not (none-past a.a a.b rs e))

pub returns-else-i-count : goal.returns-else-i-count
returns-else-i-count c =
    let a = c.args in
    let rs = counted a.list.now a.count in
    let f = c.first_past-i.ensures in
    let l = length-counted a.list.now a.count c.requires.count_in_bounds in
    let h : first a.a rs < a.count = omega (arith, f.value, f.upper_bound, c.if-i-count.false) in
    let g = first-shares a.a a.b rs c.requires.coalesced (omega (arith, h, l)) in
    let k = ap (λ (r : Range). ltb r.start a.b) (get_or-counted a.list.now a.count (first a.a rs) h c.requires.count_in_bounds) in
    let v : c.start_at.result ≡ start_at a.list.now (first a.a rs) = c.start_at.ensures ∙ ap (start_at a.list.now) f.value in
    ap (leb a.b) v ∙ at-or-above a.b (start_at a.list.now (first a.a rs)) ∙ sym (ap not (g ∙ k))
