-- What add takes, and what it leaves: the counted ranges are the old ones and behind them the new one.
use mathlib.Core.Path.{◌≡◌, sym, ap, ◌∙◌}
use mathlib.Core.Bool.{false}
use mathlib.Core.List.{List, [], ◌∷◌, ◌++◌}
use mathlib.Core.Logic.{◌⊎◌, inl, inr, ⊎_elim, ◌↔◌}
use Prim.Native.Nat.{ℕ, ◌+◌, ◌≤◌, ◌<◌}
use native.Mathlib.Omega.{arith}
use lib.ListN.{length, get_or, length-append}
use lib.Dec.{ltb}
use borrow.Author.Tests.{eqb-false, ltb-false, eq-eqb, ne_eqb, lt-ltb, le-ltb}
use Rattle.ranges.specs.Range.{Range, range, In, Covers}
use Rattle.ranges.specs.Store.{counted, capacity, limit_of, is_bad_store, either_above, stored}
use Rattle.outcomes.specs.Outcome.{Outcome, accepted, lent}
use Rattle.outcomes.specs.Refusal.{refusing}
use Rattle.outcomes.specs.declared.Refusal.TheVariants as refusal
use Rattle.outcomes.specs.Checks.{NoneOf}
use Rattle.outcomes.proofs.FirstOf.{first-none, first-accepted}
use Rattle.outcomes.proofs.Refusals.{lent_old}
use Rattle.ranges.proofs.Test.{or_false}
use Rattle.ranges.proofs.Good.{good}
use Rattle.ranges.proofs.Flat.{length-counted}
use Rattle.ranges.proofs.Stored.{counted-stored}
use Rattle.ranges.proofs.Covering.{covers_append, append_covers}
use Rattle.segment_store.specs.declared.Store.{Store}
use Rattle.segment_store.specs.Slots.{Slots}
use Rattle.segment_store.specs.Add.{add_checks, add_outcome, add_list, Takes}
use Rattle.segment_store.proofs.Behind.{stored-slots}

module _ (xs : List ℕ) (st : Store) (s e : ℕ) where
  abbrev top : ℕ
  top = limit_of st.width

  abbrev old : List Range
  old = counted xs st.count

  abbrev more : List Range
  more = old ++ (range s e ∷ [])

  -- the checks are passed exactly if add takes the range
  pub takes_of : NoneOf (add_checks xs st s e) → Takes xs st s e
  takes_of n =
      let p = good xs st.count top n.0 in
      let q : s ≡ e → ⊥ = eqb-false _ _ n.1.0 in
      let r : s ≤ e = ltb-false _ _ n.1.1.0 in
      let o = or_false (ltb top s) (ltb top e) n.1.1.1.0 in
      let c : st.count ≡ capacity xs → ⊥ = eqb-false _ _ n.1.1.1.1.0 in
      record { good = n.0; nonempty = omega arith; start-within = ltb-false _ _ o.0; end-within = ltb-false _ _ o.1; room = omega arith }

  pub of_takes : Takes xs st s e → NoneOf (add_checks xs st s e)
  of_takes t =
      let lt = t.nonempty in
      let r = t.room in
      let large : either_above top s e ≡ false = rw (le-ltb top s t.start-within, le-ltb top e t.end-within) in
      (t.good, (ne_eqb s e (λ q. omega arith), (le-ltb e s (omega arith), (large, (ne_eqb st.count (capacity xs) (λ q. omega arith), tt)))))

  taken : Takes xs st s e → add_outcome xs st s e ≡ accepted ((st.count + 1) ∷ [])
  taken t = first-none (add_checks xs st s e) (accepted ((st.count + 1) ∷ [])) (of_takes t)

  -- only a call that passes every check is accepted
  takes : (add_outcome xs st s e).number ≡ 0 → Takes xs st s e
  takes k = takes_of (first-accepted (add_checks xs st s e) (accepted ((st.count + 1) ∷ [])) (eq-eqb _ 0 k)).0

  -- accepted exactly if add takes the range; the count is one more
  pub add-accepted : (m : ℕ) → (add_outcome xs st s e ≡ accepted (m ∷ [])) ↔ (Takes xs st s e × (m ≡ st.count + 1))
  add-accepted m = (to, λ h. taken h.0 ∙ rw h.1)
    where
      to : add_outcome xs st s e ≡ accepted (m ∷ []) → Takes xs st s e × (m ≡ st.count + 1)
      to f =
          let t = takes (ap (λ (o : Outcome). o.number) f) in
          (t, ap (λ (o : Outcome). get_or o.values 0 0) (sym f ∙ taken t))

  -- the list afterwards holds one range more
  after : (m : ℕ) → add_outcome xs st s e ≡ accepted (m ∷ []) → (add_list xs st s e ≡ stored more st.count xs) × (m ≡ length more)
  after m f =
      let w = (add-accepted m).0 f in
      let g = good xs st.count top w.0.good in
      let l : length more ≡ length old + 1 = length-append old (range s e ∷ []) in
      let n = length-counted xs st.count g.room in
      (ap (λ (o : Outcome). lent o (stored more st.count xs) xs) f, omega (arith, w.1))

  -- the counted ranges afterwards: the old ones, and behind them the new one
  pub add_ranges : (m : ℕ) → add_outcome xs st s e ≡ accepted (m ∷ []) → counted (add_list xs st s e) m ≡ counted xs st.count ++ (range s e ∷ [])
  add_ranges m f = let w = after m f in rw (w.0, w.1) (counted-stored more st.count xs)

  pub add-slots : (m : ℕ) → add_outcome xs st s e ≡ accepted (m ∷ []) → Slots xs st.count (add_list xs st s e) m
  add-slots m f = let w = after m f in rw (w.0, w.1) (stored-slots more st.count xs)

  -- so their offsets are the old ones and those of the new range
  pub add_covers : (m : ℕ) → add_outcome xs st s e ≡ accepted (m ∷ []) → (x : ℕ) → Covers x (counted (add_list xs st s e) m) ↔ (Covers x (counted xs st.count) ⊎ In x (range s e))
  add_covers m f x =
      rw (add_ranges m f) (
        λ h. ⊎_elim (λ g. inl g) (λ g. inr (⊎_elim (λ u. u) absurd g)) (covers_append x old (range s e ∷ []) h),
        λ h. append_covers x old (range s e ∷ []) (⊎_elim (λ g. inl g) (λ g. inr (inl g)) h),
      )

  -- under a refusal the list stays as it was
  pub add-refused : ((add_outcome xs st s e).number ≡ 0 → ⊥) → add_list xs st s e ≡ xs
  add-refused n = lent_old (add_outcome xs st s e) (stored more st.count xs) xs n

  -- 2 and 3 come before narrow 4
  pub add_empty : is_bad_store xs st.count (limit_of st.width) ≡ false → s ≡ e → add_outcome xs st s e ≡ refusing refusal.EmptySegment
  add_empty g h = rw (g, eq-eqb s e h)

  pub add_reversed : is_bad_store xs st.count (limit_of st.width) ≡ false → e < s → add_outcome xs st s e ≡ refusing (refusal.StartLargerThanEnd s e)
  add_reversed g h = rw (g, ne_eqb s e (λ q. omega arith), lt-ltb e s h)
