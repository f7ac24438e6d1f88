-- A refusal of the checks, or what the record and the list say.
use Rattle.std.proofs.Common.{◌≡◌, ◌∙◌, sym, cond, ℕ, List, [], ◌∷◌, Bool, true, false, refl}
use Rattle.outcomes.specs.Outcome.{Outcome, accepted}
use Rattle.outcomes.specs.Answered.{yes_or_no}
use Rattle.outcomes.proofs.Answered.{handed_on}
use Rattle.outcomes.proofs.FirstOf.{first-refused, first-none, none_of}
use Rattle.reception.specs.declared.Reception.{Reception}
use Rattle.reception.specs.Record.{record_checks}
use Rattle.reception.proofs.Sound.{sound, none-split}
use Rattle.holding.specs.Held.{span_checks, held_checks, is_held}
use Rattle.report.proofs.held.held.Goals as goal

-- what is behind the checks
abbrev behind : Reception → List ℕ → ℕ → ℕ → Outcome
behind rec xs a b = cond (is_held rec xs a b) (accepted (1 ∷ [])) (accepted (0 ∷ []))

pub returns-in_err-held_checks : goal.returns-in_err-held_checks
returns-in_err-held_checks c =
    let a = c.args in
    let r = c.in_err-held_checks.field-0.0 in
    handed_on yes_or_no c.from_residual.result r c.from_residual.ensures.1
    ∙ first-refused (held_checks a.rec a.list.now a.a a.b) r (behind a.rec a.list.now a.a a.b) c.in_err-held_checks.ensures

pub is_held-requires : goal.is_held-requires
is_held-requires c =
    let a = c.args in
    let n = none_of (held_checks a.rec a.list.now a.a a.b) c.in_ok-held_checks.ensures in
    let s = sound a.list.now a.rec (none-split (record_checks a.rec a.list.now) (span_checks a.a a.b) n).0 in
    record { count_in_bounds = s.store.room; coalesced = s.whole }

-- yes or no, as an outcome
told : (b : Bool) → accepted (yes_or_no b) ≡ cond b (accepted (1 ∷ [])) (accepted (0 ∷ []))
told true = refl
told false = refl

pub returns : goal.returns
returns c =
    let a = c.args in
    let n = none_of (held_checks a.rec a.list.now a.a a.b) c.in_ok-held_checks.ensures in
    let e : accepted (yes_or_no c.is_held.result) ≡ behind a.rec a.list.now a.a a.b = rw (sym c.is_held.ensures) (told c.is_held.result) in
    e ∙ sym (first-none (held_checks a.rec a.list.now a.a a.b) (behind a.rec a.list.now a.a a.b) n)
