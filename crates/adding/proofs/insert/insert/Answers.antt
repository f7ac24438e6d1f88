-- `insert` meets its contract: the checks refuse, or the inner function says whether there is room.
use Rattle.std.specs.Prelude.{⊤, ok_or, length, ltb, Result, Option}
use Rattle.std.proofs.Common.{ℕ, ◌≡◌, refl, sym, ap, ◌∙◌, List, [], ◌∷◌, arith, Option, Some, None, Result, Ok}
use Rattle.ranges.specs.Range.{Range, range}
use Rattle.ranges.specs.Store.{counted, capacity, stored}
use Rattle.ranges.specs.Insert as ranges
use Rattle.ranges.specs.Inner.Cut.{cut_answer, cut_list}
use Rattle.ranges.proofs.Cutting.{cut_told, full_told}
use Rattle.ranges.proofs.Good.{good}
use Rattle.outcomes.specs.Outcome.{Outcome, accepted}
use Rattle.outcomes.specs.Refusal.{refusing}
use Rattle.outcomes.specs.declared.Refusal.TheVariants as refusal
use Rattle.outcomes.specs.Checks.{Check, first_of, verdict_case}
use Rattle.outcomes.specs.Answered.{answered, itself}
use Rattle.outcomes.proofs.Answered.{handed_on, or_refused, or_lent}
use Rattle.outcomes.proofs.Ends.{checks-passed, refused_end, passed-end}
use Rattle.outcomes.specs.declared.Refusal.{Refusal}
use Rattle.segment_store.specs.declared.Store.{Store}
use Rattle.segment_store.specs.Insert.{insert_leaves, insert_checks, insert_into, insert_outcome, insert_list, Enters}
use Rattle.segment_store.proofs.insert.Runs.{runs_inserted}
use Rattle.segment_store.proofs.insert.Meaning.{enters_of, of_enters}
use Rattle.adding.proofs.insert.insert.Goals as goal

module _ (xs : List ℕ) (st : Store) (s e : ℕ) where
  -- the checks, what is behind them, and the list that an accepted call leaves
  abbrev checks : List Check
  checks = insert_checks xs st s e

  abbrev leaves : List Range
  leaves = insert_leaves xs st s e

  abbrev behind : Outcome
  behind = insert_into (capacity xs) leaves

  abbrev left : List ℕ
  left = stored leaves st.count xs

  abbrev Answers : Outcome → List ℕ → Type 0
  Answers o l = (o ≡ insert_outcome xs st s e) × (l ≡ insert_list xs st s e)

  module _ (v : Result ⊤ Refusal) (told : verdict_case v ≡ first_of checks (accepted [])) (passed : v ≡ (Ok tt)) where
    -- the checks are passed
    enters : Enters xs st s e
    enters = enters_of xs st s e (checks-passed checks v told passed)

    module _ (r : Option ℕ) (l : List ℕ) (answer : r ≡ cut_answer (capacity xs) (ranges.insert (range s e) (counted xs st.count)))
        (list : l ≡ cut_list (capacity xs) (ranges.insert (range s e) (counted xs st.count)) st.count xs) where
      -- what the inner function put in is what the definition leaves
      puts : ranges.insert (range s e) (counted xs st.count) ≡ leaves
      puts = sym (runs_inserted s e (counted xs st.count) enters.nonempty enters.coalesced)

      answers : r ≡ cut_answer (capacity xs) leaves
      answers = answer ∙ ap (cut_answer (capacity xs)) puts

      lists : l ≡ cut_list (capacity xs) leaves st.count xs
      lists = list ∙ ap (λ (qs : List Range). cut_list (capacity xs) qs st.count xs) puts

      -- and room is judged on that
      said : (o : Result ℕ Refusal) → o ≡ ok_or r refusal.StoreFull → Answers (answered itself o) l
      said o h =
          let full = ltb (capacity xs) (length leaves) in
          let k = ap (answered itself) (h ∙ rw answers) ∙ or_refused itself full (length leaves) refusal.StoreFull in
          let w = passed-end checks behind behind left xs (of_enters xs st s e enters) refl in
          (k ∙ w.0, lists ∙ or_lent full refusal.StoreFull (length leaves ∷ []) left xs ∙ w.1)

pub returns-in_err-insert_checks : goal.returns-in_err-insert_checks
returns-in_err-insert_checks c =
    let a = c.args in
    let xs = a.list.now in
    let f = c.insert_checks in
    let r = c.in_err-insert_checks in
    let w = refused_end (checks xs a.st a.start a.end) (behind xs a.st a.start a.end) f.result r.field-0.0 (left xs a.st a.start a.end) xs f.ensures r.was in
    record { result_value = handed_on itself c.from_residual.result r.field-0.0 c.from_residual.ensures.1 ∙ w.0; list_after = w.1 }

pub insert-requires : goal.insert-requires
insert-requires c =
    let a = c.args in
    let t = enters a.list.now a.st a.start a.end c.insert_checks.result c.insert_checks.ensures c.in_ok-insert_checks.was in
    let g = good _ _ _ t.good in
    let r = g.room in
    record { n_le_room = (omega arith, (omega arith, (g.small, t.nonempty))); coalesced = t.coalesced }

pub returns : goal.returns
returns c =
    let a = c.args in
    let f = c.insert_checks in
    let i = c.insert in
    let w = said a.list.now a.st a.start a.end f.result f.ensures c.in_ok-insert_checks.was i.result i.new.list i.ensures.value i.ensures.list_after c.ok_or.result c.ok_or.ensures.value in
    record { result_value = w.0; list_after = w.1 }
