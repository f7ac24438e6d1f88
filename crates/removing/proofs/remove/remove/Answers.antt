-- `remove` meets its contract: the checks refuse, or the coalesced list decides.
use Rattle.std.specs.Prelude.{⊤}
use Rattle.std.proofs.Common.{ℕ, ◌≡◌, ◌∙◌, List, [], Result, Ok}
use Rattle.ranges.specs.Store.{counted, capacity, stored}
use Rattle.ranges.specs.Without.{without}
use Rattle.ranges.proofs.Good.{good}
use Rattle.outcomes.specs.Outcome.{Outcome, accepted}
use Rattle.outcomes.specs.Checks.{Check, first_of, verdict_case}
use Rattle.outcomes.proofs.Answered.{handed_on}
use Rattle.outcomes.proofs.Ends.{checks-passed, refused_end, passed-end}
use Rattle.outcomes.specs.declared.Refusal.{Refusal}
use Rattle.segment_store.specs.declared.Store.{Store}
use Rattle.segment_store.specs.Remove.{remove_case, removed_values, remove_checks, remove_from, Passes}
use Rattle.segment_store.proofs.remove.Meaning.{passes_of, of_passes}
use Rattle.removing.proofs.remove.remove.Goals as goal

module _ (xs : List ℕ) (st : Store) (a b : ℕ) where
  -- the checks, what is behind them, and the list that an accepted call leaves
  abbrev checks : List Check
  checks = remove_checks xs st a b

  abbrev behind : Outcome
  behind = remove_from (capacity xs) (counted xs st.count) a b

  abbrev left : List ℕ
  left = stored (without a b (counted xs st.count)) st.count xs

  -- the checks are passed
  passes : (v : Result ⊤ Refusal) → verdict_case v ≡ first_of checks (accepted []) → v ≡ (Ok tt) → Passes xs st a b
  passes v told passed = passes_of xs st a b (checks-passed checks v told passed)

pub returns-in_err-remove_checks : goal.returns-in_err-remove_checks
returns-in_err-remove_checks c =
    let a = c.args in
    let xs = a.list.now in
    let f = c.remove_checks in
    let w = refused_end (checks xs a.st a.a a.b) (behind xs a.st a.a a.b) f.result c.in_err-remove_checks.field-0.0 (left xs a.st a.a a.b) xs f.ensures c.in_err-remove_checks.was in
    record { result_value = handed_on removed_values c.from_residual.result c.in_err-remove_checks.field-0.0 c.from_residual.ensures.1 ∙ w.0; list_after = w.1 }

pub remove_coalesced-requires : goal.remove_coalesced-requires
remove_coalesced-requires c =
    let a = c.args in
    let p = passes a.list.now a.st a.a a.b c.remove_checks.result c.remove_checks.ensures c.in_ok-remove_checks.was in
    let g = good _ _ _ p.good in
    record { count_in_bounds = (g.room, (g.small, p.ordered)); coalesced = p.coalesced }

pub returns : goal.returns
returns c =
    let a = c.args in
    let xs = a.list.now in
    let p = passes xs a.st a.a a.b c.remove_checks.result c.remove_checks.ensures c.in_ok-remove_checks.was in
    let r = c.remove_coalesced in
    let w = passed-end (checks xs a.st a.a a.b) (behind xs a.st a.a a.b) (remove_case r.result) (left xs a.st a.a a.b) xs (of_passes xs a.st a.a a.b p) r.ensures.result_value in
    record { result_value = w.0; list_after = r.ensures.list_after ∙ w.1 }
