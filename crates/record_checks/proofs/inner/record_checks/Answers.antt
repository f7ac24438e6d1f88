-- The tests of 10, 8 and 12 in order.
use Rattle.std.proofs.Common.{◌≡◌, ◌∙◌, ◌||◌, ◌<◌, ◌≤◌, Bool, List, ℕ, true, false, sym}
use borrow.Author.Tests.{not-true, not-false, lt-ltb, le-ltb}
use Rattle.ranges.specs.Range.{last_end}
use Rattle.ranges.specs.Store.{counted, limit_of, is_bad_store}
use Rattle.ranges.proofs.Good.{good}
use Rattle.reception.specs.declared.Reception.{Reception}
use Rattle.reception.specs.Record.{is_wrong_wait, is_wrong_size, is_bad_record}
use Rattle.reception.proofs.Sound.{ten_store, ten_progress, ten_wait}
use Rattle.record_checks.proofs.inner.record_checks.Goals as goal
use Rattle.record_checks.proofs.inner.record_checks.Goals.{
  then-found-via-then-found,
  then-found-via-else-found+then-top-rec,
  then-found-via-else-found+else-top-rec+then-wrong_rest,
}

-- what was found of the store, at the width's limit
store : (rec : Reception) (xs : List ℕ) (top : ℕ) (b t : Bool) → top ≡ limit_of rec.width → b ≡ is_bad_store xs rec.count top → b ≡ t
    → is_bad_store xs rec.count (limit_of rec.width) ≡ t
store rec xs top b t e f g = rw e at (sym f ∙ g)

-- the store is good, and progress is in the limit: the rest of 10 decides
ten : (rec : Reception) (xs : List ℕ) (top : ℕ) (b t : Bool) → top ≡ limit_of rec.width → b ≡ is_bad_store xs rec.count top → b ≡ false
    → rec.progress ≤ top → t ≡ (is_wrong_wait xs rec || is_wrong_size rec) → is_bad_record xs rec ≡ t
ten rec xs top b t e f g small w = ten_wait xs rec (store rec xs top b false e f g) (rw e at small) ∙ sym w

pub wrong_rest-requires : goal.wrong_rest-requires
wrong_rest-requires c =
    let a = c.args in
    (good _ _ _ (store a.rec a.list.now _ _ false c.limit-top.ensures c.check-found.ensures.0 c.if-found.false)).room

pub returns-then-found : goal.returns-then-found
returns-then-found c =
    let a = c.args in
    let e = c.limit-top.ensures in
    let f = c.check-found.ensures.0 in
    elim c.then-found.branch [
      | then-found-via-then-found w ↦ rw (ten_store a.list.now a.rec (store a.rec a.list.now _ _ true e f w.if-found.true))
      | then-found-via-else-found+then-top-rec w ↦
          rw (ten_progress a.list.now a.rec (store a.rec a.list.now _ _ false e f w.if-found.false) (rw e at w.if-top-rec.true))
      | then-found-via-else-found+else-top-rec+then-wrong_rest w ↦
          rw (ten a.rec a.list.now _ _ true e f w.if-found.false w.if-top-rec.false w.if-wrong_rest.ensures)
    ]

pub returns-then-not-found : goal.returns-then-not-found
returns-then-not-found c =
    let a = c.args in
    let f = c.check-found.ensures in
    rw (
      ten a.rec a.list.now _ _ false c.limit-top.ensures f.0 c.if-found.false c.if-top-rec.false c.if-wrong_rest.ensures,
      sym (f.1 c.if-found.false) ∙ not-true _ c.if-not-found.true,
    )

pub last_end-requires : goal.last_end-requires
last_end-requires c =
    let a = c.args in
    (good _ _ _ (store a.rec a.list.now _ _ false c.limit-top.ensures c.check-found.ensures.0 c.if-found.false)).room

pub returns-then-rec-last_end : goal.returns-then-rec-last_end
returns-then-rec-last_end c =
    let a = c.args in
    let f = c.check-found.ensures in
    let below : a.rec.progress < last_end (counted a.list.now a.rec.count) = rw c.last_end.ensures at c.if-rec-last_end.true in
    rw (
      ten a.rec a.list.now _ _ false c.limit-top.ensures f.0 c.if-found.false c.if-top-rec.false c.if-wrong_rest.ensures,
      sym (f.1 c.if-found.false) ∙ not-false _ c.if-not-found.false,
      lt-ltb _ _ below,
    )

pub returns : goal.returns
returns c =
    let a = c.args in
    let f = c.check-found.ensures in
    let above : last_end (counted a.list.now a.rec.count) ≤ a.rec.progress = rw c.last_end.ensures at c.if-rec-last_end.false in
    rw (
      ten a.rec a.list.now _ _ false c.limit-top.ensures f.0 c.if-found.false c.if-top-rec.false c.if-wrong_rest.ensures,
      sym (f.1 c.if-found.false) ∙ not-false _ c.if-not-found.false,
      le-ltb _ _ above,
    )
