-- `order_checks` meets its contract: the tests in order, for a record that has passed its own.
use native.Mathlib.Omega.{arith}
use native.Mathlib.Nat.{mul-le-mul_right}
use mathlib.Core.Path.{◌≡◌, sym, ◌∙◌}
use mathlib.Core.Bool.{Bool, false}
use mathlib.Core.List.{List}
use Prim.Native.Nat.{ℕ, ◌≤◌, ◌<◌}
use lib.ListN.{length}
use borrow.Author.Tests.{lt-ltb, le-ltb}
use Rattle.nak.proofs.Checks.{good-lengths}
use Rattle.reception.specs.declared.Reception.{Reception}
use Rattle.reception.specs.Record.{Passed}
use Rattle.reception.proofs.Sound.{sound}
use Rattle.sequence.specs.Sequence.{largest_budget, is_bad_size, asked}
use Rattle.sequence.specs.declared.Order.{Order}
use Rattle.sequence.proofs.Sizes.{small_size}
use Rattle.nak_sequence.specs.Inner.{entry_count}
use Rattle.nak_sequence.proofs.Listed.{length-entries}
use Rattle.nak_sequence.proofs.Answers.{size_of, large_progress, large_fine}
use Rattle.nak_sequence.proofs.order_checks.Goals as goal

-- what a test of the code says of the definition's
same : {t u v : Bool} → t ≡ u → t ≡ v → u ≡ v
same e f = sym e ∙ f

-- E is the number of entries
entries : (rec : Reception) (xs : List ℕ) (o : Order) → Passed xs rec → length (asked rec xs o).entries ≡ entry_count rec
entries rec xs o p = length-entries rec xs (sound xs rec p).store.room

pub bad_size-requires : goal.bad_size-requires
bad_size-requires c = good-lengths c.args.order.identity (same c.bad_identity.ensures c.if-bad_identity.false)

pub returns-then-bad_size : goal.returns-then-bad_size
returns-then-bad_size c =
    let identity = same c.bad_identity.ensures c.if-bad_identity.false in
    let reserved = same c.reserved_set.ensures c.if-reserved_set.false in
    let size = same (c.bad_size.ensures ∙ size_of c.args.order) c.if-bad_size.true in
    rw (identity, reserved, size)

pub returns-then-largest-rec : goal.returns-then-largest-rec
returns-then-largest-rec c =
    let a = c.args in
    let identity = same c.bad_identity.ensures c.if-bad_identity.false in
    let reserved = same c.reserved_set.ensures c.if-reserved_set.false in
    let size = same (c.bad_size.ensures ∙ size_of a.order) c.if-bad_size.false in
    let large = large_progress a.rec a.list.now a.order.form (rw c.largest.ensures at c.if-largest-rec.true) in
    rw (identity, reserved, size, large)

pub entry_count-requires : goal.entry_count-requires
entry_count-requires c = let s = (sound c.args.list.now c.args.rec c.requires).store in omega (arith, s.room, s.small)

pub returns-then-entry_count-order : goal.returns-then-entry_count-order
returns-then-entry_count-order c =
    let a = c.args in
    let identity = same c.bad_identity.ensures c.if-bad_identity.false in
    let reserved = same c.reserved_set.ensures c.if-reserved_set.false in
    let size = same (c.bad_size.ensures ∙ size_of a.order) c.if-bad_size.false in
    let large = large_fine a.rec a.list.now a.order.form c.requires (rw c.largest.ensures at c.if-largest-rec.false) in
    let past : length (asked a.rec a.list.now a.order).entries < a.order.cursor = omega (arith, entries a.rec a.list.now a.order c.requires, c.if-entry_count-order.true) in
    rw (identity, reserved, size, large, lt-ltb _ _ past)

pub returns-then-order-gt-LARGEST_BUDGET : goal.returns-then-order-gt-LARGEST_BUDGET
returns-then-order-gt-LARGEST_BUDGET c =
    let a = c.args in
    let identity = same c.bad_identity.ensures c.if-bad_identity.false in
    let reserved = same c.reserved_set.ensures c.if-reserved_set.false in
    let size = same (c.bad_size.ensures ∙ size_of a.order) c.if-bad_size.false in
    let large = large_fine a.rec a.list.now a.order.form c.requires (rw c.largest.ensures at c.if-largest-rec.false) in
    let within : a.order.cursor ≤ length (asked a.rec a.list.now a.order).entries = omega (arith, entries a.rec a.list.now a.order c.requires, c.if-entry_count-order.false) in
    rw (identity, reserved, size, large, le-ltb _ _ within, lt-ltb largest_budget _ c.if-order-gt-LARGEST_BUDGET.true)

pub overflow_mul-needed : goal.overflow_mul-needed
overflow_mul-needed c =
    let o = c.args.order in
    let size = same (c.bad_size.ensures ∙ size_of o) c.if-bad_size.false in
    let m = mul-le-mul_right {m = o.budget} {n = largest_budget} o.largest c.if-order-gt-LARGEST_BUDGET.false in
    omega (arith, m, small_size o size)

pub returns-then-given-needed : goal.returns-then-given-needed
returns-then-given-needed c =
    let a = c.args in
    let identity = same c.bad_identity.ensures c.if-bad_identity.false in
    let reserved = same c.reserved_set.ensures c.if-reserved_set.false in
    let size = same (c.bad_size.ensures ∙ size_of a.order) c.if-bad_size.false in
    let large = large_fine a.rec a.list.now a.order.form c.requires (rw c.largest.ensures at c.if-largest-rec.false) in
    let within : a.order.cursor ≤ length (asked a.rec a.list.now a.order).entries = omega (arith, entries a.rec a.list.now a.order c.requires, c.if-entry_count-order.false) in
    let budget = le-ltb largest_budget a.order.budget c.if-order-gt-LARGEST_BUDGET.false in
    rw (identity, reserved, size, large, le-ltb _ _ within, budget, lt-ltb _ _ c.if-given-needed.true)

pub returns : goal.returns
returns c =
    let a = c.args in
    let identity = same c.bad_identity.ensures c.if-bad_identity.false in
    let reserved = same c.reserved_set.ensures c.if-reserved_set.false in
    let size = same (c.bad_size.ensures ∙ size_of a.order) c.if-bad_size.false in
    let large = large_fine a.rec a.list.now a.order.form c.requires (rw c.largest.ensures at c.if-largest-rec.false) in
    let within : a.order.cursor ≤ length (asked a.rec a.list.now a.order).entries = omega (arith, entries a.rec a.list.now a.order c.requires, c.if-entry_count-order.false) in
    let budget = le-ltb largest_budget a.order.budget c.if-order-gt-LARGEST_BUDGET.false in
    rw (identity, reserved, size, large, le-ltb _ _ within, budget, le-ltb _ _ c.if-given-needed.false)
