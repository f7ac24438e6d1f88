-- `scope_start` meets its contract.
use native.Mathlib.Omega.{arith}
use Prim.Native.Nat.{◌-◌}
use mathlib.Core.Path.{◌∙◌}
use Rattle.sequence.specs.Entries.{entries_in}
use Rattle.nak_sequence.proofs.Listed.{start-behind}
use Rattle.nak_sequence.proofs.inner.scope_start.Goals as goal

pub returns-then-f-eq0 : goal.returns-then-f-eq0
returns-then-f-eq0 c = rw c.if-f-eq0.true

pub returns : goal.returns
returns c =
    let a = c.args in
    c.entry_end.ensures ∙ start-behind (entries_in a.rec a.list.now) a.f (a.f - 1) (omega arith)
