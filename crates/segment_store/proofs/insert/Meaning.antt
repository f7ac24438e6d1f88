-- What insert takes, and what it leaves: the maximal runs of the counted ranges' offsets and the new ones. It is 1 exactly if these are
-- more than the capacity, so a range that overlaps or touches a counted one always enters.
use mathlib.Core.Path.{◌≡◌, refl, sym, ap, ◌∙◌}
use mathlib.Core.Bool.{Bool, true, false, not}
use mathlib.Core.List.{List, [], ◌∷◌, ◌++◌, Memᴰ}
use mathlib.Core.Logic.{◌⊎◌, inl, inr, ⊎_elim, ◌↔◌}
use Prim.Native.Nat.{ℕ, ◌≤◌, ◌<◌}
use native.Mathlib.Omega.{arith}
use lib.ListN.{length, get_or}
use lib.Dec.{ltb}
use borrow.Author.Tests.{eqb-false, ltb-true, ltb-false, ne_eqb, le-ltb, lt-ltb, not-false}
use Rattle.ranges.specs.Range.{Range, range, In, Covers, Coalesced}
use Rattle.ranges.specs.Run.{RunsOf}
use Rattle.ranges.specs.Store.{counted, capacity, limit_of, is_bad_store, either_above, stored}
use Rattle.outcomes.specs.Outcome.{Outcome, accepted, lent}
use Rattle.outcomes.specs.Refusal.{refusing}
use Rattle.outcomes.specs.declared.Refusal.TheVariants as refusal
use Rattle.outcomes.specs.Checks.{NoneOf}
use Rattle.outcomes.proofs.FirstOf.{first-none}
use Rattle.outcomes.proofs.Refusals.{lent_old}
use Rattle.outcomes.proofs.Ends.{Other, none_other}
use Rattle.ranges.proofs.Test.{or_false, coalesced_of, of_coalesced}
use Rattle.ranges.proofs.Good.{good}
use Rattle.ranges.proofs.Flat.{length-counted}
use Rattle.ranges.proofs.Stored.{counted-stored}
use Rattle.ranges.proofs.Covering.{covers_append, append_covers}
use Rattle.ranges.proofs.Runs.{runs_of}
use Rattle.ranges.proofs.Insert.{merged-length}
use Rattle.segment_store.specs.declared.Store.{Store}
use Rattle.segment_store.specs.Slots.{Slots}
use Rattle.segment_store.specs.Insert.{insert_leaves, insert_checks, insert_into, insert_outcome, insert_list, Enters}
use Rattle.segment_store.proofs.Behind.{stored-slots}
use Rattle.segment_store.proofs.coalesce.Meaning.{runs-coalesced, runs_covers}
use Rattle.segment_store.proofs.insert.Runs.{runs_inserted}

module _ (xs : List ℕ) (st : Store) (s e : ℕ) where
  abbrev top : ℕ
  top = limit_of st.width

  abbrev old : List Range
  old = counted xs st.count

  abbrev left : List Range
  left = insert_leaves xs st s e

  -- the checks, passed, in numbers
  pub enters_of : NoneOf (insert_checks xs st s e) → Enters xs st s e
  enters_of n =
      let q : s ≡ e → ⊥ = eqb-false _ _ n.1.0 in
      let r : s ≤ e = ltb-false _ _ n.1.1.0 in
      let o = or_false (ltb top s) (ltb top e) n.1.1.1.0 in
      record {
        good = n.0;
        nonempty = omega arith;
        start-within = ltb-false _ _ o.0;
        end-within = ltb-false _ _ o.1;
        coalesced = coalesced_of old (not-false _ n.1.1.1.1.0);
      }

  pub of_enters : Enters xs st s e → NoneOf (insert_checks xs st s e)
  of_enters t =
      let lt = t.nonempty in
      let large : either_above top s e ≡ false = rw (le-ltb top s t.start-within, le-ltb top e t.end-within) in
      (t.good, (ne_eqb s e (λ q. omega arith), (le-ltb e s (omega arith), (large, (ap not (of_coalesced old t.coalesced), tt)))))

  -- behind the checks the number of ranges decides
  passes : Enters xs st s e → insert_outcome xs st s e ≡ insert_into (capacity xs) left
  passes t = first-none (insert_checks xs st s e) (insert_into (capacity xs) left) (of_enters t)

  -- the numbers 0 and 1 come only where the checks are passed
  passed : (insert_outcome xs st s e).number ≤ 1 → Enters xs st s e
  passed k = enters_of (none_other (insert_outcome xs st s e).number (insert_checks xs st s e) (insert_into (capacity xs) left) others refl)
    where
      late : (n : ℕ) → 1 < n → n ≡ (insert_outcome xs st s e).number → ⊥
      late n h f = omega arith

      others : Other (insert_outcome xs st s e).number (insert_checks xs st s e)
      others = (
        late 10 (omega arith),
        (late 2 (omega arith), (late 3 (omega arith), (late 4 (omega arith), (late 8 (omega arith), tt)))),
      )

  -- the result is the list of the maximal runs of the old offsets and the new ones
  leaves-covers : (x : ℕ) → Covers x left ↔ (Covers x old ⊎ In x (range s e))
  leaves-covers x =
      let i = runs_covers x (old ++ (range s e ∷ [])) in (
        λ h. ⊎_elim (λ g. inl g) (λ g. inr (⊎_elim (λ u. u) absurd g)) (covers_append x old (range s e ∷ []) (i.0 h)),
        λ h. i.1 (append_covers x old (range s e ∷ []) (⊎_elim (λ g. inl g) (λ g. inr (inl g)) h)),
      )

  pub insert-leaves : RunsOf (λ x. Covers x (counted xs st.count) ⊎ In x (range s e)) (insert_leaves xs st s e)
  insert-leaves = runs_of (λ x. Covers x old ⊎ In x (range s e)) left (runs-coalesced (old ++ (range s e ∷ []))) leaves-covers

  -- accepted exactly if the checks are passed and the result has room; its number is answered
  pub insert-accepted : (m : ℕ) → (insert_outcome xs st s e ≡ accepted (m ∷ [])) ↔ (Enters xs st s e × (length (insert_leaves xs st s e) ≤ capacity xs) × (m ≡ length (insert_leaves xs st s e)))
  insert-accepted m = (to, λ h. passes h.0 ∙ rw (le-ltb (capacity xs) (length left) h.1, h.2))
    where
      to : insert_outcome xs st s e ≡ accepted (m ∷ []) → Enters xs st s e × (length left ≤ capacity xs) × (m ≡ length left)
      to f =
          let t = passed (omega (arith, ap (λ (o : Outcome). o.number) f)) in
          go (ltb (capacity xs) (length left)) refl t (sym (passes t) ∙ f)
        where
          go : (u : Bool) → ltb (capacity xs) (length left) ≡ u → Enters xs st s e → insert_into (capacity xs) left ≡ accepted (m ∷ [])
              → Enters xs st s e × (length left ≤ capacity xs) × (m ≡ length left)
          go true g t k = let z = ap (λ (o : Outcome). o.number) k in absurd (omega (arith, rw g at z))
          go false g t k = let z = ap (λ (o : Outcome). get_or o.values 0 0) k in (t, ltb-false _ _ g, sym (rw g at z))

  -- 1 exactly if the checks are passed and the result has more ranges than the capacity
  pub insert_full : (insert_outcome xs st s e ≡ refusing refusal.StoreFull) ↔ (Enters xs st s e × (capacity xs < length (insert_leaves xs st s e)))
  insert_full = (to, λ h. passes h.0 ∙ rw (lt-ltb (capacity xs) (length left) h.1))
    where
      to : insert_outcome xs st s e ≡ refusing refusal.StoreFull → Enters xs st s e × (capacity xs < length left)
      to f =
          let t = passed (omega (arith, ap (λ (o : Outcome). o.number) f)) in
          go (ltb (capacity xs) (length left)) refl t (sym (passes t) ∙ f)
        where
          go : (u : Bool) → ltb (capacity xs) (length left) ≡ u → Enters xs st s e → insert_into (capacity xs) left ≡ refusing refusal.StoreFull
              → Enters xs st s e × (capacity xs < length left)
          go true g t k = (t, ltb-true _ _ g)
          go false g t k = let z = ap (λ (o : Outcome). o.number) k in absurd (omega (arith, rw g at z))

  -- a range that overlaps or touches a counted one never finds the store full
  pub insert_merges : Enters xs st s e → (q : Range) → Memᴰ q (counted xs st.count) → s ≤ q.end → q.start ≤ e
      → (insert_outcome xs st s e ≡ accepted (length (insert_leaves xs st s e) ∷ [])) × (length (insert_leaves xs st s e) ≤ st.count)
  insert_merges t q m h k =
      let g = good xs st.count top t.good in
      let n = length-counted xs st.count g.room in
      let l : length left ≤ length old = rw (runs_inserted s e old t.nonempty t.coalesced) (merged-length 0 (range s e) old t.coalesced q m h k) in
      ((insert-accepted (length left)).1 (t, omega (arith, g.room), refl), omega arith)

  -- the list afterwards
  after : (m : ℕ) → insert_outcome xs st s e ≡ accepted (m ∷ []) → (insert_list xs st s e ≡ stored left st.count xs) × (m ≡ length left)
  after m f = (ap (λ (o : Outcome). lent o (stored left st.count xs) xs) f, ((insert-accepted m).0 f).2)

  pub insert_ranges : (m : ℕ) → insert_outcome xs st s e ≡ accepted (m ∷ []) → counted (insert_list xs st s e) m ≡ insert_leaves xs st s e
  insert_ranges m f = let w = after m f in rw (w.0, w.1) (counted-stored left st.count xs)

  -- with the count m that the answer carries: the counted ranges are coalesced and have the old offsets and the new ones
  pub insert-coalesced : (m : ℕ) → insert_outcome xs st s e ≡ accepted (m ∷ []) → Coalesced (counted (insert_list xs st s e) m)
  insert-coalesced m f = rw (insert_ranges m f) (runs-coalesced (old ++ (range s e ∷ [])))

  pub insert_covers : (m : ℕ) → insert_outcome xs st s e ≡ accepted (m ∷ [])
      → (x : ℕ) → Covers x (counted (insert_list xs st s e) m) ↔ (Covers x (counted xs st.count) ⊎ In x (range s e))
  insert_covers m f x = rw (insert_ranges m f) (leaves-covers x)

  pub insert-slots : (m : ℕ) → insert_outcome xs st s e ≡ accepted (m ∷ []) → Slots xs st.count (insert_list xs st s e) m
  insert-slots m f = let w = after m f in rw (w.0, w.1) (stored-slots left st.count xs)

  -- under a refusal the list stays as it was
  pub insert-refused : ((insert_outcome xs st s e).number ≡ 0 → ⊥) → insert_list xs st s e ≡ xs
  insert-refused n = lent_old (insert_outcome xs st s e) (stored left st.count xs) xs n

  -- 2 and 3 come before narrow 4
  pub insert_reversed : is_bad_store xs st.count (limit_of st.width) ≡ false → e < s → insert_outcome xs st s e ≡ refusing (refusal.StartLargerThanEnd s e)
  insert_reversed g h = rw (g, ne_eqb s e (λ q. omega arith), lt-ltb e s h)
