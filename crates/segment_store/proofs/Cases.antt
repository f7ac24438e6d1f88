-- No two answers of a call have one outcome, so each call's statement allows one answer.
use Rattle.std.specs.Prelude.{Result, Ok, Err}
use mathlib.Core.Path.{◌≡◌, refl, ap}
use mathlib.Core.Bool.{Bool, true, false, cond}
use mathlib.Core.List.{List}
use Prim.Native.Nat.{ℕ}
use lib.Dec.{eqb}
use lib.ListN.{get_or}
use Rattle.outcomes.specs.Outcome.{Outcome}
use Rattle.outcomes.specs.declared.Refusal.{Refusal}
use Rattle.outcomes.proofs.Refusals.{value, refusal_back, refusal-back, refuses}
use Rattle.outcomes.proofs.Apart.{apart}
use Rattle.outcomes.proofs.Answered.{one-answer, one-itself}
use Rattle.segment_store.specs.Add.{add_case}
use Rattle.segment_store.specs.Remove.{remove_case, removed_values}
use Rattle.segment_store.specs.Coalesce.{coalesce_case}
use Rattle.segment_store.specs.Insert.{insert_case}
use Rattle.segment_store.specs.SegmentInStore.{in_store_case}
use Rattle.segment_store.specs.WriteSegmentsToBytes.{to_bytes_case}
use Rattle.segment_store.specs.declared.remove.Removed.{Removed}
use Rattle.segment_store.specs.declared.remove.Removed.TheVariants as removed

pub one-add : (r s : Result ℕ Refusal) → add_case r ≡ add_case s → r ≡ s
one-add = one-itself

-- what left, its index and the count
abbrev removed_back : List ℕ → Removed
removed_back vs =
    let index = get_or vs 1 0 in
    let count = get_or vs 2 0 in
    cond (eqb (get_or vs 0 0) 0) (removed.NotStored count)
    (cond (eqb (get_or vs 0 0) 1) (removed.Whole index count)
    (cond (eqb (get_or vs 0 0) 2) (removed.Left index count)
    (cond (eqb (get_or vs 0 0) 3) (removed.Right index count)
    (removed.Split index count))))

removed-back : (r : Removed) → removed_back (removed_values r) ≡ r
removed-back (removed.Whole i m) = refl
removed-back (removed.Left i m) = refl
removed-back (removed.Right i m) = refl
removed-back (removed.Split i m) = refl
removed-back (removed.NotStored m) = refl

pub one_remove : (r s : Result Removed Refusal) → remove_case r ≡ remove_case s → r ≡ s
one_remove = one-answer removed_values removed_back removed-back

pub one_coalesce : (r s : Result ℕ Refusal) → coalesce_case r ≡ coalesce_case s → r ≡ s
one_coalesce = one-itself

-- yes or no by their outcomes themselves, whatever words give them
abbrev in_store_back : Outcome → Result Bool Refusal
in_store_back o = cond (eqb o.number 0) (Ok (eqb (value 0 o) 1)) (Err (refusal_back o))

in_store-back : (r : Result Bool Refusal) → in_store_back (in_store_case r) ≡ r
in_store-back (Ok true) = refl
in_store-back (Ok false) = refl
in_store-back (Err r) = rw (refuses r) (ap (λ (q : Refusal). Err q) (refusal-back r))

pub one_in_store : (r s : Result Bool Refusal) → in_store_case r ≡ in_store_case s → r ≡ s
one_in_store = apart in_store_case in_store_back in_store-back

pub one_write : (r s : Result ℕ Refusal) → to_bytes_case r ≡ to_bytes_case s → r ≡ s
one_write = one-itself

pub one-insert : (r s : Result ℕ Refusal) → insert_case r ≡ insert_case s → r ≡ s
one-insert = one-itself
