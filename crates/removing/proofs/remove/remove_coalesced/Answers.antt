-- `remove_coalesced` meets its contract: the first range that ends above a decides.
use Rattle.std.proofs.Common.{arith, ◌+◌, ◌-◌, ◌≡◌, ◌≤◌, ◌<◌, sym, ap, ◌∙◌, refl, ℕ, inl, inr}
use Rattle.std.specs.Prelude.{◌⊎◌}
use Rattle.std.specs.Result.{result_ok}
use Rattle.ranges.specs.Store.{start_at, end_at}
use Rattle.ranges.specs.Inner.Cut.{gone_of}
use Rattle.removing.proofs.remove.Answers.{past_all, before_it, boundary, behind_it, inside-room, inside_full}
use Rattle.outcomes.specs.Outcome.{accepted}
use Rattle.outcomes.specs.declared.Refusal.TheVariants as refusal
use Rattle.outcomes.proofs.Answered.{handed_on, or_none}
use Rattle.segment_store.specs.Remove.{removed_values}
use Rattle.removing.proofs.remove.remove_coalesced.Goals as goal
use Rattle.removing.proofs.remove.remove_coalesced.Goals.{then-a-s-via-then-a-s, then-a-s-via-else-a-s+then-e-b}

pub returns-then-i-count : goal.returns-then-i-count
returns-then-i-count c =
    let a = c.args in
    let r = c.requires in
    let f = c.first_past-i in
    let w = past_all a.list.now a.count a.a a.b f.result r.count_in_bounds.0 r.count_in_bounds.1.1 r.coalesced f.ensures.value c.if-i-count.true in
    record { result_value = w.0; list_after = w.1 }

pub returns-then-b-s : goal.returns-then-b-s
returns-then-b-s c =
    let a = c.args in
    let r = c.requires in
    let f = c.first_past-i in
    let w = before_it a.list.now a.count a.a a.b f.result r.count_in_bounds.0 r.count_in_bounds.1.1 r.coalesced f.ensures.value (omega arith) (omega arith) in
    record { result_value = w.0; list_after = w.1 }

pub cut-done-requires-clause-i_value : goal.cut-done-requires-clause-i_value
cut-done-requires-clause-i_value c =
    let a = c.args in
    let r = c.requires in
    let f = c.first_past-i in (
      f.ensures.value,
      behind_it a.list.now a.count a.a a.b f.result r.count_in_bounds.0 r.count_in_bounds.1.1 r.coalesced f.ensures.value (omega arith) (omega arith) (omega arith),
    )

pub returns-then-a-s-clause-result_value : goal.returns-then-a-s-clause-result_value
returns-then-a-s-clause-result_value c =
    let a = c.args in
    let xs = a.list.now in
    let r = c.requires in
    let f = c.first_past-i in
    let outside : (a.a < start_at xs f.result) ⊎ (end_at xs f.result < a.b) =
    elim c.then-a-s.branch [ then-a-s-via-then-a-s w ↦ inl (omega (arith, w.if-a-s)) | then-a-s-via-else-a-s+then-e-b w ↦ inr (omega (arith, w.if-e-b)) ] in
    boundary xs a.count a.a a.b f.result r.count_in_bounds.0 r.count_in_bounds.1.1 r.coalesced f.ensures.value (omega arith) (omega arith) outside

pub returns-in_err-left-clause-result_value : goal.returns-in_err-left-clause-result_value
returns-in_err-left-clause-result_value c =
    let a = c.args in
    let r = c.requires in
    let f = c.first_past-i in
    let d = c.cut-done in
    let e = c.in_err-left in
    let none = sym (ap result_ok e.was) ∙ sym c.ok_or.ensures.ok_part in
    let w = inside_full a.list.now a.count a.a a.b f.result r.count_in_bounds.0 r.count_in_bounds.1.1 r.coalesced f.ensures.value (omega arith) (omega arith) (omega arith)
    d.new.list (none ∙ d.ensures.remains_value) d.ensures.list_after in
    handed_on removed_values c.from_residual.result e.field-0.0 c.from_residual.ensures.1 ∙ or_none {A = ℕ} e.field-0.0 refusal.StoreFull (e.ensures.value ∙ rw (sym none) refl) ∙ w.0

pub returns-clause-result_value : goal.returns-clause-result_value
returns-clause-result_value c =
    let a = c.args in
    let r = c.requires in
    let f = c.first_past-i in
    let d = c.cut-done in
    let same : f.result + 1 - 1 ≡ f.result = omega arith in
    let gone = d.ensures.part_value ∙ ap (λ (k : ℕ). gone_of a.a a.b (start_at a.list.now f.result) (end_at a.list.now k)) same in
    let some = sym (ap result_ok c.in_ok-left.was) ∙ sym c.ok_or.ensures.ok_part in
    let w = inside-room a.list.now a.count a.a a.b f.result r.count_in_bounds.0 r.count_in_bounds.1.1 r.coalesced f.ensures.value (omega arith) (omega arith) (omega arith)
    d.result.part c.in_ok-left.left d.new.list (some ∙ d.ensures.remains_value) gone d.ensures.list_after in
    ap accepted c.removed.ensures ∙ w.0
