-- `entry_end` meets its contract.
use native.Mathlib.Omega.{arith}
use Prim.Native.Nat.{◌-◌}
use mathlib.Core.Path.{sym}
use Rattle.nak_sequence.proofs.Listed.{end_known, end_missing}
use Rattle.nak_sequence.proofs.inner.entry_end.Goals as goal

pub returns-then-i-eq0 : goal.returns-then-i-eq0
returns-then-i-eq0 c = rw (c.if-rec.true, c.if-i-eq0.true)

pub overflow_mul-result : goal.overflow_mul-result
overflow_mul-result c = omega (arith, rw c.if-rec.true at c.requires.1)

pub overflow_add-result : goal.overflow_add-result
overflow_add-result c = omega (arith, rw c.if-rec.true at c.requires.1)

pub offset_bounds-list-l : goal.offset_bounds-list-l
offset_bounds-list-l c = omega (arith, rw c.if-rec.true at c.requires.1)

pub bounds-list-l : goal.bounds-list-l
bounds-list-l c = omega (arith, rw c.if-rec.true at c.requires.1)

pub returns-then-rec : goal.returns-then-rec
returns-then-rec c =
    let a = c.args in
    let k = rw c.if-rec.true at c.requires.1 in
    rw c.if-rec.true (sym (end_missing a.list.now a.rec.count a.i (a.i - 1) (omega arith) (omega arith) (omega arith)))

pub overflow_mul-result-2 : goal.overflow_mul-result-2
overflow_mul-result-2 c = omega (arith, rw c.if-rec.false at c.requires.1)

pub overflow_add-result-2 : goal.overflow_add-result-2
overflow_add-result-2 c = omega (arith, rw c.if-rec.false at c.requires.1)

pub offset_bounds-list-i : goal.offset_bounds-list-i
offset_bounds-list-i c = omega (arith, rw c.if-rec.false at c.requires.1)

pub bounds-list-i : goal.bounds-list-i
bounds-list-i c = omega (arith, rw c.if-rec.false at c.requires.1)

pub returns : goal.returns
returns c =
    let a = c.args in
    let k = rw c.if-rec.false at c.requires.1 in
    rw c.if-rec.false (sym (end_known a.list.now a.rec.count a.i (omega arith) (omega arith)))
