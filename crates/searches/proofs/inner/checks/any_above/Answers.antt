-- `any_above` meets its contract: no number of 64 bits is above the largest of them.
use Rattle.std.proofs.Common.{arith, rules, tests, ◌∙◌, sym, ap, take, ltb, not, eq-eqb}
use Rattle.std.proofs.lemmas.Iterator.{YieldsList-from_slice}
use Rattle.std.proofs.lemmas.Iterator.Search.{any_from_yields_List}
use Rattle.ranges.proofs.Good.{none_above}
use Rattle.searches.proofs.Scans.{any-above}
use Rattle.searches.proofs.inner.checks.any_above.Goals as goal

pub returns-then-top : goal.returns-then-top
returns-then-top c =
    let a = c.args in
    let xs = take a.end a.list.now in
    any_from_yields_List (ltb a.top) _ _ c.any.result c.any.ensures.ran (YieldsList-from_slice xs cc) (λ x b q k. search (rules, tests)) ∙ any-above a.top xs

pub returns-else-top : goal.returns-else-top
returns-else-top c =
    let a = c.args in
    ap not (eq-eqb _ _ c.if-top.false) ∙ sym (none_above a.top a.list.now a.end (λ i. omega (arith, c.type_inv.list i, c.if-top.false)))
