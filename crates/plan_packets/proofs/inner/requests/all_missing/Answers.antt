-- `all_missing` meets its contract: the first range that ends above the start decides.
use native.Mathlib.Omega.{arith}
use mathlib.Core.Path.{sym, ap, ◌∙◌}
use borrow.Author.Tests.{leb-true, leb-false, ltb-true}
use Prim.Native.Nat.{◌<◌, ◌≤◌}
use Rattle.ranges.specs.Store.{counted, start_at}
use Rattle.ranges.specs.Inner.Cut.{first}
use Rattle.plan_packets.proofs.Wanted.{by_start, by_end, by_none}
use Rattle.plan_packets.proofs.inner.requests.all_missing.Goals as goal
use Rattle.plan_packets.proofs.inner.requests.all_missing.Goals.{then-i-n, else-i-n}

pub returns-then-start_at-s : goal.returns-then-start_at-s
returns-then-start_at-s c =
    let a = c.args in
    let r = c.requires in
    let f = c.first_past-i.ensures in
    elim c.if-i-n.branch [
      | then-i-n w ↦
          let h : first a.s (counted a.list.now a.n) < a.n = omega (arith, f.value, w.if-i-n.true) in
          let k : start_at a.list.now (first a.s (counted a.list.now a.n)) ≤ a.s = omega
          (arith, w.start_at.ensures ∙ ap (start_at a.list.now) f.value, leb-true _ _ (sym w.value-is ∙ c.if-start_at-s.true)) in
          rw (c.end_at.ensures, f.value) (by_end a.list.now a.n a.s a.e r.n_in_bounds r.coalesced c.if-e-s.false h k)
      | else-i-n w ↦ let t : c.first_past-i.result < a.n = ltb-true _ _ (sym w.value-is ∙ c.if-start_at-s.true) in absurd (omega (arith, t, w.if-i-n.false))
    ]

pub returns-else-start_at-s : goal.returns-else-start_at-s
returns-else-start_at-s c =
    let a = c.args in
    let r = c.requires in
    let f = c.first_past-i.ensures in
    elim c.if-i-n.branch [
      | then-i-n w ↦
          let h : first a.s (counted a.list.now a.n) < a.n = omega (arith, f.value, w.if-i-n.true) in
          let k : a.s < start_at a.list.now (first a.s (counted a.list.now a.n)) = omega
          (arith, w.start_at.ensures ∙ ap (start_at a.list.now) f.value, leb-false _ _ (sym w.value-is ∙ c.if-start_at-s.false)) in
          c.if-start_at-s.false ∙ by_start a.list.now a.n a.s a.e r.n_in_bounds r.coalesced c.if-e-s.false h k
      | else-i-n w ↦
          c.if-start_at-s.false ∙ by_none a.list.now a.n a.s a.e r.n_in_bounds r.coalesced c.if-e-s.false (omega (arith, f.value, w.if-i-n.false)) (omega (arith, f.value, f.upper_bound))
    ]
