-- segment_in_store says yes exactly if some stored (s, e) has a at least s and b at most e, whatever (a, b) is, and no exactly if
-- none has.
use mathlib.Core.Path.{◌≡◌, refl, sym, ap, ◌∙◌}
use mathlib.Core.Bool.{Bool, true, false}
use mathlib.Core.List.{List, [], ◌∷◌}
use mathlib.Core.Logic.{◌↔◌}
use Prim.Native.Nat.{ℕ}
use native.Mathlib.Omega.{arith}
use lib.ListN.{get_or}
use Rattle.ranges.specs.Range.{Range, some, inside}
use Rattle.ranges.specs.Store.{counted, limit_of, is_bad_store}
use Rattle.outcomes.specs.Outcome.{Outcome, accepted}
use Rattle.ranges.proofs.Some.{some_member, inside_true}
use Rattle.segment_store.specs.declared.Store.{Store}
use Rattle.segment_store.specs.SegmentInStore.{Held, in_store_outcome}

pub in_store_yes : (xs : List ℕ) (st : Store) (a b : ℕ) → is_bad_store xs st.count (limit_of st.width) ≡ false
    → (in_store_outcome xs st a b ≡ accepted (1 ∷ [])) ↔ Held a b (counted xs st.count)
in_store_yes xs st a b e = (λ f. to (some (inside a b) rs) refl f, λ w. rw (e, (some_member (inside a b) rs).1 (w.0, w.1, (inside_true a b w.0).1 (w.2, w.3))))
  where
    rs : List Range
    rs = counted xs st.count

    to : (t : Bool) → some (inside a b) rs ≡ t → in_store_outcome xs st a b ≡ accepted (1 ∷ []) → Held a b rs
    to true g f =
        let w = (some_member (inside a b) rs).0 g in
        let k = (inside_true a b w.0).0 w.2 in
        (w.0, w.1, k.0, k.1)
    to false g f =
        let h : accepted (0 ∷ []) ≡ accepted (1 ∷ []) = rw (e, g) at f in
        absurd (omega (arith, ap (λ (o : Outcome). get_or o.values 0 0) h))

pub in_store_no : (xs : List ℕ) (st : Store) (a b : ℕ) → is_bad_store xs st.count (limit_of st.width) ≡ false
    → (in_store_outcome xs st a b ≡ accepted (0 ∷ [])) ↔ (Held a b (counted xs st.count) → ⊥)
in_store_no xs st a b e = (to, λ f. from (some (inside a b) rs) refl f)
  where
    rs : List Range
    rs = counted xs st.count

    to : in_store_outcome xs st a b ≡ accepted (0 ∷ []) → Held a b rs → ⊥
    to f w = omega (arith, ap (λ (o : Outcome). get_or o.values 0 0) (sym f ∙ (in_store_yes xs st a b e).1 w))

    from : (t : Bool) → some (inside a b) rs ≡ t → (Held a b rs → ⊥) → in_store_outcome xs st a b ≡ accepted (0 ∷ [])
    from true g f = absurd (f ((in_store_yes xs st a b e).0 (rw (e, g))))
    from false g f = rw (e, g)
