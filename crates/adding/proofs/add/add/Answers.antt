-- `add` meets its contract: the checks refuse, or the list has one pair more.
use Rattle.std.specs.Prelude.{⊤}
use Rattle.std.proofs.Common.{ℕ, ◌≡◌, ◌+◌, ◌*◌, ◌≤◌, refl, ◌∙◌, List, [], ◌∷◌, ◌++◌, length, arith, Result, Ok}
use Rattle.ranges.specs.Range.{range}
use Rattle.ranges.specs.Store.{counted, stored, most_numbers}
use Rattle.ranges.proofs.Good.{good}
use Rattle.ranges.proofs.Stored.{stored_push}
use Rattle.outcomes.specs.Outcome.{accepted}
use Rattle.outcomes.specs.Checks.{first_of, verdict_case}
use Rattle.outcomes.proofs.Ends.{checks-passed, passed-end}
use Rattle.outcomes.specs.declared.Refusal.{Refusal}
use Rattle.segment_store.specs.declared.Store.{Store}
use Rattle.segment_store.specs.Add.{add_checks, Takes}
use Rattle.segment_store.proofs.add.Meaning.{takes_of, of_takes}
use Rattle.adding.proofs.add.add.Goals as goal

module _ (xs : List ℕ) (st : Store) (s e : ℕ) (v : Result ⊤ Refusal) (told : verdict_case v ≡ first_of (add_checks xs st s e) (accepted [])) (passed : v ≡ (Ok tt)) where
  -- the checks are passed
  taken : Takes xs st s e
  taken = takes_of xs st s e (checks-passed (add_checks xs st s e) v told passed)

  room : (2 * st.count + 2 ≤ length xs) × (length xs ≤ most_numbers)
  room =
      let g = good _ _ _ taken.good in
      let r = taken.room in
      (omega arith, g.small)

pub put_pair-requires : goal.put_pair-requires
put_pair-requires c =
    let a = c.args in
    (room a.list.now a.st a.start a.end c.add_checks.result c.add_checks.ensures c.in_ok-add_checks.was).0

pub overflow_add-result : goal.overflow_add-result
overflow_add-result c =
    let a = c.args in
    let r = room a.list.now a.st a.start a.end c.add_checks.result c.add_checks.ensures c.in_ok-add_checks.was in
    omega arith

pub returns-clause-list_after : goal.returns-clause-list_after
returns-clause-list_after c =
    let a = c.args in
    let xs = a.list.now in
    let f = c.add_checks in
    let done = accepted ((a.st.count + 1) ∷ []) in
    let more : List ℕ = stored (counted xs a.st.count ++ (range a.start a.end ∷ [])) a.st.count xs in
    let t = of_takes xs a.st a.start a.end (taken xs a.st a.start a.end f.result f.ensures c.in_ok-add_checks.was) in
    let w = passed-end (add_checks xs a.st a.start a.end) done done more xs t refl in
    c.put_pair.ensures ∙ stored_push xs a.st.count a.start a.end (room xs a.st a.start a.end f.result f.ensures c.in_ok-add_checks.was).0 ∙ w.1
