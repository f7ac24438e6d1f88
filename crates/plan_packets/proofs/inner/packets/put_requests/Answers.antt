-- A turn: one pair more is written, and one request less is ahead.
use mathlib.Core.Path.{sym, ap, ◌∙◌}
use mathlib.Core.List.{List, [], ◌∷◌, ◌++◌, append_assoc}
use Prim.Native.Nat.{◌+◌, ◌*◌}
use native.Mathlib.Omega.{arith}
use lib.ListN.{length}
use Rattle.ranges.specs.Range.{Range, range}
use Rattle.ranges.specs.Store.{counted}
use Rattle.plan_packets.specs.Requests.{ahead}
use Rattle.plan_packets.proofs.Pushed.{drop-later, pushed}
use Rattle.plan_packets.proofs.inner.packets.put_requests.Goals as goal

pub loop-s-preserved : goal.loop-s-preserved
loop-s-preserved c =
    let l = c.loop-s in
    let i = l.invariant in
    let q = c.in-Some.ensures.steps in
    let k = ap length q in
    let w = pushed l.scratch c.put_pair.new.list l.n c.in-Some.s c.in-Some.e (omega (arith, k, i.0)) c.put_pair.ensures in (
      omega (arith, k, i.0),
      ap (λ (rs : List Range). rs ++ ahead c.next.new.self) w.0 ∙ append_assoc (counted l.scratch l.n) (range c.in-Some.s c.in-Some.e ∷ []) (ahead c.next.new.self)
          ∙ ap (λ (rs : List Range). counted l.scratch l.n ++ rs) (sym q) ∙ i.1,
      w.1 ∙ drop-later l.scratch c.args.scratch.now (2 * l.n) (2 * (l.n + 1)) (omega arith) i.2,
    )
