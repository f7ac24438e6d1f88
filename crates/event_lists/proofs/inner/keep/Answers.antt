-- A gap, data in order, nothing, or a cut.
use Rattle.std.proofs.Common.{◌≡◌, ◌∙◌, ◌-◌, ℕ, suc, ap, arith}
use Rattle.ranges.specs.Store.{counted}
use Rattle.ranges.specs.Inner.Cut.{behind}
use Rattle.reception.proofs.Keeping.{kept_gap, kept-nothing, kept-in_order}
use Rattle.event_lists.proofs.inner.keep.Goals as goal

pub returns-then-p-a : goal.returns-then-p-a
returns-then-p-a c =
    let a = c.args in
    let s = c.requires.coalesced in
    let w = c.insert_behind.ensures in
    let e = kept_gap a.p a.a a.e (counted a.list.now a.count) (omega arith) s.0 s.1 c.if-p-a.true in
    record { value = rw e w.value; list_after = rw e w.list_after }

pub returns-then-p-a-2 : goal.returns-then-p-a-2
returns-then-p-a-2 c =
    let a = c.args in
    let s = c.requires.coalesced in
    let w = kept-in_order a.list.now a.count a.p a.a a.e (omega arith) (omega arith) s.0 s.1 c.if-p-a-2.true in
    record { value = w.0; list_after = w.1 }

pub returns-then-i-j : goal.returns-then-i-j
returns-then-i-j c =
    let a = c.args in
    let s = c.requires.coalesced in
    let i = c.first_past-i.result in
    let n : suc (a.e - 1) ≡ a.e = omega arith in
    -- the place found is the first behind the data
    let found : c.first_above-j.result ≡ behind i a.e (counted a.list.now a.count) =
    c.first_above-j.ensures.value ∙ ap (λ (k : ℕ). behind i k (counted a.list.now a.count)) n in
    let w =
    kept-nothing a.list.now a.count a.p a.a a.e i (omega arith) (omega arith) s.0 s.1 c.if-p-a.false
    c.first_past-i.ensures.value (c.if-i-j.true ∙ found) in
    record { value = w.0; list_after = w.1 }
