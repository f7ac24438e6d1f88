-- What coalesce leaves: ranges that are coalesced and have exactly the offsets of the counted pairs, so the maximal runs of their
-- union. Only 10 refuses.
use mathlib.Core.Path.{◌≡◌, refl, sym, ap, ◌∙◌}
use mathlib.Core.Bool.{Bool, true, false}
use mathlib.Core.List.{List, [], ◌∷◌}
use mathlib.Core.Logic.{◌⊎◌, inl, inr, ⊎_elim, ◌↔◌}
use Prim.Native.Nat.{ℕ}
use native.Mathlib.Omega.{arith}
use lib.ListN.{length, get_or}
use Rattle.ranges.specs.Range.{Range, Coalesced, Covers, Same}
use Rattle.ranges.specs.Insert.{join}
use Rattle.ranges.specs.Run.{RunsOf}
use Rattle.ranges.proofs.Insert.{join-above, join_covers}
use Rattle.ranges.proofs.Runs.{runs_of}
use Rattle.ranges.specs.Store.{counted, limit_of, is_bad_store, stored}
use Rattle.outcomes.specs.Outcome.{Outcome, accepted}
use Rattle.outcomes.proofs.Refusals.{lent_old}
use Rattle.ranges.proofs.Stored.{counted-stored}
use Rattle.segment_store.specs.declared.Store.{Store}
use Rattle.segment_store.specs.Slots.{Slots}
use Rattle.segment_store.specs.Coalesce.{gather, maximal_runs, coalesce_outcome, coalesce_list}
use Rattle.segment_store.proofs.Behind.{stored-slots}

gather-above : (qs rs : List Range) → Coalesced qs → Coalesced (gather qs rs)
gather-above qs [] a = a
gather-above qs (r ∷ rs) a = gather-above (join r qs) rs (join-above r qs a)

gather_covers : (x : ℕ) (qs rs : List Range) → Coalesced qs → Covers x (gather qs rs) ↔ (Covers x qs ⊎ Covers x rs)
gather_covers x qs [] a = (λ h. inl h, ⊎_elim (λ h. h) absurd)
gather_covers x qs (r ∷ rs) a =
    let i = gather_covers x (join r qs) rs (join-above r qs a) in
    let j = join_covers x r qs a in (
      λ h. ⊎_elim (λ g. ⊎_elim (λ y. inr (inl y)) (λ y. inl y) (j.0 g)) (λ g. inr (inr g)) (i.0 h),
      ⊎_elim (λ g. i.1 (inl (j.1 (inr g)))) (⊎_elim (λ g. i.1 (inl (j.1 (inl g)))) (λ g. i.1 (inr g))),
    )

pub runs-coalesced : (rs : List Range) → Coalesced (maximal_runs rs)
unfolding maximal_runs
runs-coalesced rs = gather-above [] rs tt

pub runs_covers : (x : ℕ) (rs : List Range) → Covers x (maximal_runs rs) ↔ Covers x rs
unfolding maximal_runs
runs_covers x rs = let i = gather_covers x [] rs tt in (λ h. ⊎_elim absurd (λ g. g) (i.0 h), λ h. i.1 (inr h))

module _ (xs : List ℕ) (st : Store) where
  abbrev runs : List Range
  runs = maximal_runs (counted xs st.count)

  -- only 10 refuses
  pub coalesce_accepted : ((m : ℕ) × (coalesce_outcome xs st ≡ accepted (m ∷ []))) ↔ (is_bad_store xs st.count (limit_of st.width) ≡ false)
  coalesce_accepted = (λ h. to (is_bad_store xs st.count (limit_of st.width)) refl h.0 h.1, λ e. (length runs, rw e))
    where
      to : (t : Bool) → is_bad_store xs st.count (limit_of st.width) ≡ t → (m : ℕ) → coalesce_outcome xs st ≡ accepted (m ∷ [])
          → is_bad_store xs st.count (limit_of st.width) ≡ false
      to true e m f = let z = ap (λ (o : Outcome). o.number) f in absurd (omega (arith, rw e at z))
      to false e m f = e

  after : (m : ℕ) → coalesce_outcome xs st ≡ accepted (m ∷ []) → (coalesce_list xs st ≡ stored runs st.count xs) × (m ≡ length runs)
  after m f =
      let e = coalesce_accepted.0 (m, f) in
      (rw e, ap (λ (o : Outcome). get_or o.values 0 0) (sym f) ∙ rw e)

  pub coalesce_answers : is_bad_store xs st.count (limit_of st.width) ≡ false → coalesce_outcome xs st ≡ accepted (length (maximal_runs (counted xs st.count)) ∷ [])
  coalesce_answers e = rw e

  pub coalesce_ranges : (m : ℕ) → coalesce_outcome xs st ≡ accepted (m ∷ []) → counted (coalesce_list xs st) m ≡ maximal_runs (counted xs st.count)
  coalesce_ranges m f = let w = after m f in rw (w.0, w.1) (counted-stored runs st.count xs)

  -- accepted, with the count m that the answer carries: m ranges are counted, they are coalesced, they have exactly the offsets that
  -- the pairs had, and so they are the maximal runs of that set
  pub coalesce_count : (m : ℕ) → coalesce_outcome xs st ≡ accepted (m ∷ []) → length (counted (coalesce_list xs st) m) ≡ m
  coalesce_count m f = ap length (coalesce_ranges m f) ∙ sym (after m f).1

  pub coalesce_coalesced : (m : ℕ) → coalesce_outcome xs st ≡ accepted (m ∷ []) → Coalesced (counted (coalesce_list xs st) m)
  coalesce_coalesced m f = rw (coalesce_ranges m f) (runs-coalesced (counted xs st.count))

  pub coalesce_covers : (m : ℕ) → coalesce_outcome xs st ≡ accepted (m ∷ []) → Same (counted (coalesce_list xs st) m) (counted xs st.count)
  coalesce_covers m f x = rw (coalesce_ranges m f) (runs_covers x (counted xs st.count))

  pub coalesce_runs : (m : ℕ) → coalesce_outcome xs st ≡ accepted (m ∷ []) → RunsOf (λ x. Covers x (counted xs st.count)) (counted (coalesce_list xs st) m)
  coalesce_runs m f = runs_of (λ x. Covers x (counted xs st.count)) (counted (coalesce_list xs st) m) (coalesce_coalesced m f) (coalesce_covers m f)

  pub coalesce_slots : (m : ℕ) → coalesce_outcome xs st ≡ accepted (m ∷ []) → Slots xs st.count (coalesce_list xs st) m
  coalesce_slots m f = let w = after m f in rw (w.0, w.1) (stored-slots runs st.count xs)

  -- under a refusal the list stays as it was
  pub coalesce_refused : ((coalesce_outcome xs st).number ≡ 0 → ⊥) → coalesce_list xs st ≡ xs
  coalesce_refused n = lent_old (coalesce_outcome xs st) (stored runs st.count xs) xs n
