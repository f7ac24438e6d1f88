-- `bad_record` meets its contract: the parts of check 10 in order.
use native.Mathlib.Omega.{arith}
use Prim.Native.Nat.{ℕ, ◌≤◌}
use mathlib.Core.Path.{◌≡◌, sym, ap, ◌∙◌}
use mathlib.Core.Bool.{Bool}
use mathlib.Core.List.{List}
use Rattle.ranges.specs.Store.{limit_of, is_bad_store}
use Rattle.ranges.proofs.Good.{good}
use Rattle.reception.specs.declared.Reception.{Reception}
use Rattle.reception.proofs.Sound.{ten_store, ten_progress, ten_wait}
use Rattle.sharing.proofs.inner.checks.bad_record.Goals as goal
use Rattle.sharing.proofs.inner.checks.bad_record.Goals.{then-bad_store-via-then-bad_store, then-bad_store-via-else-bad_store+then-top-rec}

-- the store as it was tested, at the limit that the call gave
tested : (xs : List ℕ) (rec : Reception) (top : ℕ) (t s : Bool) → top ≡ limit_of rec.width → t ≡ is_bad_store xs rec.count top → t ≡ s
    → is_bad_store xs rec.count (limit_of rec.width) ≡ s
tested xs rec top t s l e f = ap (is_bad_store xs rec.count) (sym l) ∙ sym e ∙ f

pub returns-then-bad_store : goal.returns-then-bad_store
returns-then-bad_store c =
    let xs = c.args.list.now in
    let rec = c.args.rec in
    elim c.then-bad_store.branch [
      | then-bad_store-via-then-bad_store w ↦ sym (ten_store xs rec (tested xs rec _ _ _ c.limit-top.ensures c.bad_store.ensures w.if-bad_store.true))
      | then-bad_store-via-else-bad_store+then-top-rec w ↦
          sym (ten_progress xs rec (tested xs rec _ _ _ c.limit-top.ensures c.bad_store.ensures w.if-bad_store.false)
          (omega (arith, w.if-top-rec.true, c.limit-top.ensures)))
    ]

pub wrong_rest-requires : goal.wrong_rest-requires
wrong_rest-requires c =
    let a = c.args in
    (good a.list.now a.rec.count (limit_of a.rec.width)
    (tested a.list.now a.rec _ _ _ c.limit-top.ensures c.bad_store.ensures c.if-bad_store.false)).room

pub returns : goal.returns
returns c =
    let a = c.args in
    let small : a.rec.progress ≤ limit_of a.rec.width = omega (arith, c.if-top-rec.false, c.limit-top.ensures) in
    c.wrong_rest.ensures
    ∙ sym (ten_wait a.list.now a.rec (tested a.list.now a.rec _ _ _ c.limit-top.ensures c.bad_store.ensures c.if-bad_store.false) small)
