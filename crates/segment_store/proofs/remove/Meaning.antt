-- What remove answers, and what it leaves, against sets of offsets. It takes exactly if (a, b) lies inside one range and a split has
-- room; it says which part of that range left and where the range stood. It is 1 exactly if a range is split and the store is full, 5
-- exactly if (a, b) shares an offset with some range and lies inside none, and none exactly if it shares none.
use mathlib.Core.Path.{◌≡◌, refl, sym, ap, ◌∙◌}
use mathlib.Core.Bool.{Bool, true, false, not, true≢false}
use mathlib.Core.List.{List, [], ◌∷◌}
use mathlib.Core.Logic.{◌⊎◌, inl, inr, ⊎_elim, ◌↔◌}
use Prim.Native.Nat.{ℕ, ◌-◌, ◌≤◌, ◌<◌}
use native.Mathlib.Omega.{arith}
use lib.ListN.{length, get_or}
use lib.Dec.{ltb, eqb}
use borrow.Author.Tests.{ltb-true, ltb-false, eqb-true, eqb-false, eq-eqb, ne_eqb, lt-ltb, le-ltb, not-false}
use Rattle.ranges.specs.Range.{Range, range, In, Covers, Coalesced, Inside, Shares, some, inside, shares, range_at}
use Rattle.ranges.specs.Without.{Outside, without}
use Rattle.ranges.specs.Store.{counted, capacity, limit_of, is_bad_store, either_above, stored}
use Rattle.outcomes.specs.Outcome.{Outcome, accepted, lent}
use Rattle.outcomes.specs.Refusal.{refusing}
use Rattle.outcomes.specs.declared.Refusal.TheVariants as refusal
use Rattle.outcomes.specs.Checks.{NoneOf}
use Rattle.outcomes.proofs.FirstOf.{first-none}
use Rattle.outcomes.proofs.Refusals.{lent_old}
use Rattle.ranges.proofs.Test.{or_false, or_true, coalesced_of, of_coalesced}
use Rattle.ranges.proofs.Some.{inside-set, shares-set}
use Rattle.ranges.proofs.Holder.{holder, one-holder, member_at, at_member}
use Rattle.ranges.proofs.Covering.{at_covers}
use Rattle.ranges.proofs.Good.{good}
use Rattle.ranges.proofs.Flat.{length-counted}
use Rattle.ranges.proofs.Stored.{counted-stored, stored_same}
use Rattle.ranges.proofs.Without.{without_covers, without-coalesced, without-none, length_without}
use Rattle.segment_store.specs.declared.Store.{Store}
use Rattle.segment_store.specs.Slots.{Slots}
use Rattle.segment_store.specs.Remove.{part_of, remove_checks, remove_from, remove_outcome, remove_list, Passes, Splits}
use Rattle.outcomes.proofs.Ends.{Other, none_other}
use Rattle.segment_store.proofs.Behind.{stored-slots}
use Rattle.segment_store.proofs.remove.Split.{split_of, split-length}

-- outcomes of different numbers or values differ
number_of : {o p : Outcome} → o ≡ p → o.number ≡ p.number
number_of e = ap (λ (o : Outcome). o.number) e

value_of : (i : ℕ) {o p : Outcome} → o ≡ p → get_or o.values i 0 ≡ get_or p.values i 0
value_of i e = ap (λ (o : Outcome). get_or o.values i 0) e

-- the numbers of the answers that come behind the checks
abbrev Late : ℕ → Type 0
Late k = (k ≤ 1) ⊎ (k ≡ 5)

-- inside is more than sharing, since (a, b) is not empty
shared : (a b : ℕ) (rs : List Range) → a < b → Inside a b rs → Shares a b rs
shared a b rs lt f = (a, (omega arith, lt), f a (omega arith, lt))

-- what each number of `part_of` says of a range that (a, b) lies inside
data PartOf (a b : ℕ) (r : Range) : ℕ → Type 0 where
  whole : r.start ≡ a → r.end ≡ b → PartOf a b r 1
  at_left : r.start ≡ a → b < r.end → PartOf a b r 2
  at_right : r.start < a → r.end ≡ b → PartOf a b r 3
  between : r.start < a → b < r.end → PartOf a b r 4

part-of : (a b : ℕ) (r : Range) → r.start ≤ a → b ≤ r.end → PartOf a b r (part_of a b r)
part-of a b r h k = go (eqb a r.start) refl (eqb b r.end) refl
  where
    below : eqb a r.start ≡ false → r.start < a
    below e = let n : a ≡ r.start → ⊥ = eqb-false _ _ e in omega arith

    above : eqb b r.end ≡ false → b < r.end
    above e = let n : b ≡ r.end → ⊥ = eqb-false _ _ e in omega arith

    go : (t : Bool) → eqb a r.start ≡ t → (u : Bool) → eqb b r.end ≡ u → PartOf a b r (part_of a b r)
    go true e true f = rw (e, f) (whole (sym (eqb-true _ _ e)) (sym (eqb-true _ _ f)))
    go true e false f = rw (e, f) (at_left (sym (eqb-true _ _ e)) (above f))
    go false e true f = rw (e, f) (at_right (below e) (sym (eqb-true _ _ f)))
    go false e false f = rw (e, f) (between (below e) (above f))

-- a range has the offsets of (a, b) exactly if it has its ends
same_ends : (a b : ℕ) (r : Range) → a < b → ((x : ℕ) → In x r ↔ In x (range a b)) ↔ ((r.start ≡ a) × (r.end ≡ b))
same_ends a b r lt = (to, λ h x. (λ g. rw (h.0, h.1) at g, λ g. rw (h.0, h.1) g))
  where
    to : ((x : ℕ) → In x r ↔ In x (range a b)) → (r.start ≡ a) × (r.end ≡ b)
    to f =
        let p = (f a).1 (omega arith, lt) in
        let q = (f r.start).0 (omega arith, omega (arith, p.0, p.1)) in
        let u = (f (b - 1)).1 (omega arith, omega arith) in
        let v = (f (r.end - 1)).0 (omega (arith, p.0, p.1), omega (arith, p.0, p.1)) in
        (omega (arith, p.0, q.0), omega (arith, u.1, v.1, p.1))

module _ (xs : List ℕ) (st : Store) (a b : ℕ) where
  abbrev top : ℕ
  top = limit_of st.width

  abbrev rs : List Range
  rs = counted xs st.count

  abbrev left : List Range
  left = without a b rs

  -- there is room: a split finds count below capacity
  abbrev Room : Type 0
  Room = Splits a b rs → st.count < capacity xs

  -- the checks, passed, in numbers
  pub passes_of : NoneOf (remove_checks xs st a b) → Passes xs st a b
  passes_of n =
      let o = or_false (ltb top a) (ltb top b) n.1.0 in
      let q : a ≡ b → ⊥ = eqb-false _ _ n.1.1.0 in
      let r : a ≤ b = ltb-false _ _ n.1.1.1.0 in
      record {
        good = n.0;
        a_within = ltb-false _ _ o.0;
        b_within = ltb-false _ _ o.1;
        ordered = omega arith;
        coalesced = coalesced_of rs (not-false _ n.1.1.1.1.0);
      }

  pub of_passes : Passes xs st a b → NoneOf (remove_checks xs st a b)
  of_passes p =
      let lt = p.ordered in
      let large : either_above top a b ≡ false = rw (le-ltb top a p.a_within, le-ltb top b p.b_within) in
      (p.good, (large, (ne_eqb a b (λ q. omega arith), (le-ltb b a (omega arith), (ap not (of_coalesced rs p.coalesced), tt)))))

  -- the answers 0, 1 and 5 come only where all checks are passed
  passed : Late (remove_outcome xs st a b).number → Passes xs st a b
  passed k = passes_of (none_other (remove_outcome xs st a b).number (remove_checks xs st a b) (remove_from (capacity xs) rs a b) others refl)
    where
      late : (n : ℕ) → 1 < n → (n ≡ 5 → ⊥) → n ≡ (remove_outcome xs st a b).number → ⊥
      late n h f e = ⊎_elim (λ q. omega arith) (λ q. f (e ∙ q)) k

      others : Other (remove_outcome xs st a b).number (remove_checks xs st a b)
      others = (
        late 10 (omega arith) (λ e. omega arith),
        (late 4 (omega arith) (λ e. omega arith), (late 2 (omega arith) (λ e. omega arith), (late 3 (omega arith) (λ e. omega arith), (late 8 (omega arith) (λ e. omega arith), tt)))),
      )

  passes : Passes xs st a b → remove_outcome xs st a b ≡ remove_from (capacity xs) rs a b
  passes p = first-none (remove_checks xs st a b) (remove_from (capacity xs) rs a b) (of_passes p)

  -- the four ends of a call that passes the checks
  data End : Outcome → Type 0 where
    full : Splits a b rs → st.count ≡ capacity xs → End (refusing refusal.StoreFull)
    gone : (i : ℕ) → i < length rs → (range_at rs i).start ≤ a → b ≤ (range_at rs i).end → Room → End (accepted (part_of a b (range_at rs i) ∷ i ∷ length left ∷ []))
    bound : (Inside a b rs → ⊥) → Shares a b rs → End (refusing (refusal.InvalidSegmentBoundary a b))
    none : (Shares a b rs → ⊥) → left ≡ rs → End (accepted (0 ∷ 0 ∷ length rs ∷ []))

  -- (a, b) lies inside the range at place i
  abbrev Held : ℕ → Type 0
  Held i = (i < length rs) × ((range_at rs i).start ≤ a) × (b ≤ (range_at rs i).end)

  module _ (p : Passes xs st a b) where
    abbrev lt : a < b
    lt = p.ordered

    abbrev s : Coalesced rs
    s = p.coalesced

    fits : (st.count ≤ capacity xs) × (length rs ≡ st.count)
    fits = let g = good xs st.count top p.good in (omega (arith, g.room), length-counted xs st.count g.room)

    held-inside : (i : ℕ) → Held i → Inside a b rs
    held-inside i h x k = at_covers x rs i h.0 (omega (arith, h.1, k.0), omega (arith, h.2, k.1))

    split-held : (w : Splits a b rs) → (i : ℕ) × Held i × (range_at rs i ≡ w.0)
    split-held w =
        let m = member_at w.0 rs w.1 in
        (m.0, (m.1, rw m.2 (omega (arith, w.2)), rw m.2 (omega (arith, w.3))), m.2)

    split-inside : Splits a b rs → Inside a b rs
    split-inside w = let h = split-held w in held-inside h.0 h.1

    -- more ranges are left than there is room for exactly if a range is split and the store is full
    too_many : capacity xs < length left → Splits a b rs × (st.count ≡ capacity xs)
    too_many k =
        let n = fits.0 in
        let m = fits.1 in
        let u = length_without a b lt 0 rs s in
        (split_of a b rs (omega arith), omega arith)

    room : length left ≤ capacity xs → Room
    room k w =
        let m = fits.1 in
        let u = split-length a b lt rs s w in
        omega arith

    end : End (remove_outcome xs st a b)
    end = rw (passes p) (go (some (inside a b) rs) refl (ltb (capacity xs) (length left)) refl (some (shares a b) rs) refl)
      where
        go : (t : Bool) → some (inside a b) rs ≡ t → (u : Bool) → ltb (capacity xs) (length left) ≡ u → (v : Bool) → some (shares a b) rs ≡ v
            → End (remove_from (capacity xs) rs a b)
        go true e true f v g = let w = too_many (ltb-true _ _ f) in simp (e, f) (full w.0 w.1)
        go true e false f v g = let w = holder a b lt rs e in simp (e, f) (gone _ w.0 w.1 w.2 (room (ltb-false _ _ f)))
        go false e u f true g = simp (e, g) (bound (λ h. true≢false (sym ((inside-set a b lt rs s).1 h) ∙ e)) ((shares-set a b lt rs s).0 g))
        go false e u f false g = simp (e, g) (none (λ h. true≢false (sym ((shares-set a b lt rs s).1 h) ∙ g)) (without-none a b lt 0 rs s g))

    -- the range at place i is taken from, whatever place the definition finds
    taken_of : (i : ℕ) → Held i → Room → remove_outcome xs st a b ≡ accepted (part_of a b (range_at rs i) ∷ i ∷ length left ∷ [])
    taken_of i h r = go (remove_outcome xs st a b) end
      where
        go : (o : Outcome) → End o → o ≡ accepted (part_of a b (range_at rs i) ∷ i ∷ length left ∷ [])
        go _ (full w k) = let u = r w in absurd (omega arith)
        go _ (gone j u v w k) = let e : j ≡ i = one-holder a b lt j rs s (u, v, w) ∙ sym (one-holder a b lt i rs s h) in rw e
        go _ (bound g k) = absurd (g (held-inside i h))
        go _ (none g k) = absurd (g (shared a b rs lt (held-inside i h)))

    -- where no range is split there is room
    unsplit : (i : ℕ) → Held i → (((range_at rs i).start < a) × (b < (range_at rs i).end) → ⊥) → Room
    unsplit i h f w =
        let g = split-held w in
        let e : g.0 ≡ i = one-holder a b lt g.0 rs s g.1 ∙ sym (one-holder a b lt i rs s h) in
        let q : range_at rs i ≡ w.0 = rw e at g.2 in
        absurd (f (rw q w.2, rw q w.3))

    full-of : Splits a b rs → st.count ≡ capacity xs → remove_outcome xs st a b ≡ refusing refusal.StoreFull
    full-of w c = go (remove_outcome xs st a b) end
      where
        go : (o : Outcome) → End o → o ≡ refusing refusal.StoreFull
        go _ (full u k) = refl
        go _ (gone i u v z k) = let u = k w in absurd (omega arith)
        go _ (bound g k) = absurd (g (split-inside w))
        go _ (none g k) = absurd (g (shared a b rs lt (split-inside w)))

    bound_of : Shares a b rs → (Inside a b rs → ⊥) → remove_outcome xs st a b ≡ refusing (refusal.InvalidSegmentBoundary a b)
    bound_of h f = go (remove_outcome xs st a b) end
      where
        go : (o : Outcome) → End o → o ≡ refusing (refusal.InvalidSegmentBoundary a b)
        go _ (full w k) = absurd (f (split-inside w))
        go _ (gone i u v w k) = absurd (f (held-inside i (u, v, w)))
        go _ (bound g k) = refl
        go _ (none g k) = absurd (g h)

    none_of : (Shares a b rs → ⊥) → remove_outcome xs st a b ≡ accepted (0 ∷ 0 ∷ st.count ∷ [])
    none_of f = go (remove_outcome xs st a b) end
      where
        go : (o : Outcome) → End o → o ≡ accepted (0 ∷ 0 ∷ st.count ∷ [])
        go _ (full w k) = absurd (f (shared a b rs lt (split-inside w)))
        go _ (gone i u v w k) = absurd (f (shared a b rs lt (held-inside i (u, v, w))))
        go _ (bound g k) = absurd (f k)
        go _ (none g k) = rw fits.1

    inside-held : Inside a b rs → (i : ℕ) × Held i
    inside-held f = let w = holder a b lt rs ((inside-set a b lt rs s).1 f) in (_, w)

  -- what each answer tells, of the end that the call came to
  told-taken : (w i m : ℕ) (o : Outcome) → End o → 1 ≤ w → o ≡ accepted (w ∷ i ∷ m ∷ []) → Held i × Room × PartOf a b (range_at rs i) w
  told-taken w i m _ (full u k) l e = absurd (omega (arith, number_of e))
  told-taken w i m _ (gone j u v z k) l e =
      let f : j ≡ i = value_of 1 e in
      let g : part_of a b (range_at rs j) ≡ w = value_of 0 e in
      ((rw f at u, rw f at v, rw f at z), k, rw (← g, ← f) (part-of a b (range_at rs j) v z))
  told-taken w i m _ (bound g k) l e = absurd (omega (arith, number_of e))
  told-taken w i m _ (none g k) l e = absurd (omega (arith, value_of 0 e))

  told-count : (w i m : ℕ) (o : Outcome) → End o → o ≡ accepted (w ∷ i ∷ m ∷ []) → m ≡ length left
  told-count w i m _ (full u k) e = absurd (omega (arith, number_of e))
  told-count w i m _ (gone j u v z k) e = sym (value_of 2 e)
  told-count w i m _ (bound g k) e = absurd (omega (arith, number_of e))
  told-count w i m _ (none g k) e = sym (value_of 2 e) ∙ sym (ap length k)

  told-full : (o : Outcome) → End o → o ≡ refusing refusal.StoreFull → Splits a b rs × (st.count ≡ capacity xs)
  told-full _ (full w k) e = (w, k)
  told-full _ (gone i u v w k) e = absurd (omega (arith, number_of e))
  told-full _ (bound g k) e = absurd (omega (arith, number_of e))
  told-full _ (none g k) e = absurd (omega (arith, number_of e))

  told-bound : (o : Outcome) → End o → o ≡ refusing (refusal.InvalidSegmentBoundary a b) → Shares a b rs × (Inside a b rs → ⊥)
  told-bound _ (full w k) e = absurd (omega (arith, number_of e))
  told-bound _ (gone i u v w k) e = absurd (omega (arith, number_of e))
  told-bound _ (bound g k) e = (k, g)
  told-bound _ (none g k) e = absurd (omega (arith, number_of e))

  told_none : (i m : ℕ) (o : Outcome) → End o → o ≡ accepted (0 ∷ i ∷ m ∷ []) → (Shares a b rs → ⊥) × (left ≡ rs)
  told_none i m _ (full w k) e = absurd (omega (arith, number_of e))
  told_none i m _ (gone j u v z k) e = absurd (no_part _ (part-of a b (range_at rs j) v z) (value_of 0 e))
    where
      no_part : (w : ℕ) → PartOf a b (range_at rs j) w → w ≡ 0 → ⊥
      no_part _ (whole f g) h = omega arith
      no_part _ (at_left f g) h = omega arith
      no_part _ (at_right f g) h = omega arith
      no_part _ (between f g) h = omega arith
  told_none i m _ (bound g k) e = absurd (omega (arith, number_of e))
  told_none i m _ (none g k) e = (g, k)

  -- the checks are passed where a call is accepted
  passed-by : (vs : List ℕ) → remove_outcome xs st a b ≡ accepted vs → Passes xs st a b
  passed-by vs e = passed (inl (omega (arith, number_of e)))

  told : (w i m : ℕ) → 1 ≤ w → remove_outcome xs st a b ≡ accepted (w ∷ i ∷ m ∷ []) → Passes xs st a b × Held i × Room × PartOf a b (range_at rs i) w
  told w i m l e = let p = passed-by (w ∷ i ∷ m ∷ []) e in let t = told-taken w i m (remove_outcome xs st a b) (end p) l e in (p, t.0, t.1, t.2)

  -- something is taken: the checks are passed, (a, b) lies inside one range, and there is room
  pub remove_takes : ((w : ℕ) × (i : ℕ) × (m : ℕ) × (1 ≤ w) × (remove_outcome xs st a b ≡ accepted (w ∷ i ∷ m ∷ [])))
      ↔ (Passes xs st a b × Inside a b (counted xs st.count) × (Splits a b (counted xs st.count) → st.count < capacity xs))
  remove_takes = (to, from)
    where
      to : (w : ℕ) × (i : ℕ) × (m : ℕ) × (1 ≤ w) × (remove_outcome xs st a b ≡ accepted (w ∷ i ∷ m ∷ [])) → Passes xs st a b × Inside a b rs × Room
      to (w, i, m, l, e) = let t = told w i m l e in (t.0, held-inside t.0 i t.1, t.2)

      from : Passes xs st a b × Inside a b rs × Room → (w : ℕ) × (i : ℕ) × (m : ℕ) × (1 ≤ w) × (remove_outcome xs st a b ≡ accepted (w ∷ i ∷ m ∷ []))
      from (p, f, r) = let h = inside-held p f in (_, h.0, length left, positive _ (part-of a b (range_at rs h.0) h.1.1 h.1.2), taken_of p h.0 h.1 r)
        where
          positive : {q : Range} (w : ℕ) → PartOf a b q w → 1 ≤ w
          positive _ (whole f g) = omega arith
          positive _ (at_left f g) = omega arith
          positive _ (at_right f g) = omega arith
          positive _ (between f g) = omega arith

  -- the index is that of the one range inside which (a, b) lies
  pub remove_index : (w i m : ℕ) → 1 ≤ w → remove_outcome xs st a b ≡ accepted (w ∷ i ∷ m ∷ [])
      → (j : ℕ) → ((j < st.count) × ((range_at (counted xs st.count) j).start ≤ a) × (b ≤ (range_at (counted xs st.count) j).end)) ↔ (j ≡ i)
  remove_index w i m l e j =
      let t = told w i m l e in
      let p = t.0 in
      let n = (fits p).1 in (
        λ h. one-holder a b (lt p) j rs (s p) (omega (arith, h.0), h.1, h.2) ∙ sym (one-holder a b (lt p) i rs (s p) t.1),
        λ h. rw h (omega (arith, t.1.0), t.1.1, t.1.2),
      )

  abbrev At : ℕ → Range
  At i = range_at rs i

  -- the answer w with place i: the range at i is taken from in that way
  answers : (w i : ℕ) → 1 ≤ w → ((m : ℕ) × (remove_outcome xs st a b ≡ accepted (w ∷ i ∷ m ∷ []))) → Passes xs st a b × (i < st.count) × PartOf a b (At i) w
  answers w i l (m, e) = let t = told w i m l e in let n = (fits t.0).1 in (t.0, omega (arith, t.1.0), t.3)

  answered : (w i : ℕ) → Passes xs st a b → i < st.count → (At i).start ≤ a → b ≤ (At i).end → part_of a b (At i) ≡ w → Room
      → (m : ℕ) × (remove_outcome xs st a b ≡ accepted (w ∷ i ∷ m ∷ []))
  answered w i p k u v f r = let n = (fits p).1 in (length left, taken_of p i (omega arith, u, v) r ∙ rw f)

  -- whole: the range's offsets are those of (a, b)
  pub remove_whole : (i : ℕ) → ((m : ℕ) × (remove_outcome xs st a b ≡ accepted (1 ∷ i ∷ m ∷ [])))
      ↔ (Passes xs st a b × (i < st.count) × ((x : ℕ) → In x (range_at (counted xs st.count) i) ↔ In x (range a b)))
  remove_whole i = (λ h. let t = answers 1 i (omega arith) h in (t.0, t.1, (same_ends a b (At i) t.0.ordered).1 (ends 1 t.2 refl)), from)
    where
      ends : (w : ℕ) → PartOf a b (At i) w → w ≡ 1 → ((At i).start ≡ a) × ((At i).end ≡ b)
      ends _ (whole u v) e = (u, v)
      ends _ (at_left u v) e = absurd (omega arith)
      ends _ (at_right u v) e = absurd (omega arith)
      ends _ (between u v) e = absurd (omega arith)

      from : Passes xs st a b × (i < st.count) × ((x : ℕ) → In x (At i) ↔ In x (range a b)) → (m : ℕ) × (remove_outcome xs st a b ≡ accepted (1 ∷ i ∷ m ∷ []))
      from (p, k, f) =
          let g = (same_ends a b (At i) p.ordered).0 f in
          let n = (fits p).1 in
          answered 1 i p k (omega (arith, g.0)) (omega (arith, g.1)) (rw (eq-eqb a (At i).start (sym g.0), eq-eqb b (At i).end (sym g.1)))
          (unsplit p i (omega arith, omega (arith, g.0), omega (arith, g.1)) (λ h. omega (arith, h.0, g.0)))

  -- left part: a is its start and b lies below its end
  pub remove_left : (i : ℕ) → ((m : ℕ) × (remove_outcome xs st a b ≡ accepted (2 ∷ i ∷ m ∷ [])))
      ↔ (Passes xs st a b × (i < st.count) × ((range_at (counted xs st.count) i).start ≡ a) × (b < (range_at (counted xs st.count) i).end))
  remove_left i = (λ h. let t = answers 2 i (omega arith) h in let g = ends 2 t.2 refl in (t.0, t.1, g.0, g.1), from)
    where
      ends : (w : ℕ) → PartOf a b (At i) w → w ≡ 2 → ((At i).start ≡ a) × (b < (At i).end)
      ends _ (whole u v) e = absurd (omega arith)
      ends _ (at_left u v) e = (u, v)
      ends _ (at_right u v) e = absurd (omega arith)
      ends _ (between u v) e = absurd (omega arith)

      from : Passes xs st a b × (i < st.count) × ((At i).start ≡ a) × (b < (At i).end) → (m : ℕ) × (remove_outcome xs st a b ≡ accepted (2 ∷ i ∷ m ∷ []))
      from (p, k, f, g) =
          let n = (fits p).1 in
          answered 2 i p k (omega (arith, f)) (omega (arith, g)) (rw (eq-eqb a (At i).start (sym f), ne_eqb b (At i).end (λ e. omega arith)))
          (unsplit p i (omega arith, omega (arith, f), omega (arith, g)) (λ h. omega (arith, h.0, f)))

  -- right part: a lies above its start and b is its end
  pub remove_right : (i : ℕ) → ((m : ℕ) × (remove_outcome xs st a b ≡ accepted (3 ∷ i ∷ m ∷ [])))
      ↔ (Passes xs st a b × (i < st.count) × ((range_at (counted xs st.count) i).start < a) × ((range_at (counted xs st.count) i).end ≡ b))
  remove_right i = (λ h. let t = answers 3 i (omega arith) h in let g = ends 3 t.2 refl in (t.0, t.1, g.0, g.1), from)
    where
      ends : (w : ℕ) → PartOf a b (At i) w → w ≡ 3 → ((At i).start < a) × ((At i).end ≡ b)
      ends _ (whole u v) e = absurd (omega arith)
      ends _ (at_left u v) e = absurd (omega arith)
      ends _ (at_right u v) e = (u, v)
      ends _ (between u v) e = absurd (omega arith)

      from : Passes xs st a b × (i < st.count) × ((At i).start < a) × ((At i).end ≡ b) → (m : ℕ) × (remove_outcome xs st a b ≡ accepted (3 ∷ i ∷ m ∷ []))
      from (p, k, f, g) =
          let n = (fits p).1 in
          answered 3 i p k (omega (arith, f)) (omega (arith, g)) (rw (ne_eqb a (At i).start (λ e. omega arith), eq-eqb b (At i).end (sym g)))
          (unsplit p i (omega arith, omega (arith, f), omega (arith, g)) (λ h. omega (arith, h.1, g)))

  -- split: a lies above its start and b below its end, and there is room for one range more
  pub remove_split : (i : ℕ) → ((m : ℕ) × (remove_outcome xs st a b ≡ accepted (4 ∷ i ∷ m ∷ [])))
      ↔ (Passes xs st a b × (i < st.count) × ((range_at (counted xs st.count) i).start < a) × (b < (range_at (counted xs st.count) i).end) × (st.count < capacity xs))
  remove_split i = (to, from)
    where
      ends : (w : ℕ) → PartOf a b (At i) w → w ≡ 4 → ((At i).start < a) × (b < (At i).end)
      ends _ (whole u v) e = absurd (omega arith)
      ends _ (at_left u v) e = absurd (omega arith)
      ends _ (at_right u v) e = absurd (omega arith)
      ends _ (between u v) e = (u, v)

      to : (m : ℕ) × (remove_outcome xs st a b ≡ accepted (4 ∷ i ∷ m ∷ [])) → Passes xs st a b × (i < st.count) × ((At i).start < a) × (b < (At i).end) × (st.count < capacity xs)
      to (m, e) =
          let t = told 4 i m (omega arith) e in
          let n = (fits t.0).1 in
          let g = ends 4 t.3 refl in
          (t.0, omega (arith, t.1.0), g.0, g.1, t.2 (At i, at_member rs i t.1.0, g.0, g.1))

      from : Passes xs st a b × (i < st.count) × ((At i).start < a) × (b < (At i).end) × (st.count < capacity xs)
          → (m : ℕ) × (remove_outcome xs st a b ≡ accepted (4 ∷ i ∷ m ∷ []))
      from (p, k, f, g, c) =
          answered 4 i p k (omega (arith, f)) (omega (arith, g)) (rw (ne_eqb a (At i).start (λ e. omega arith), ne_eqb b (At i).end (λ e. omega arith))) (λ w. c)

  -- 1: a range is split and the store is full
  pub remove_full : (remove_outcome xs st a b ≡ refusing refusal.StoreFull) ↔ (Passes xs st a b × Splits a b (counted xs st.count) × (st.count ≡ capacity xs))
  remove_full = (to, λ h. full-of h.0 h.1 h.2)
    where
      to : remove_outcome xs st a b ≡ refusing refusal.StoreFull → Passes xs st a b × Splits a b rs × (st.count ≡ capacity xs)
      to e = let p = passed (inl (omega (arith, number_of e))) in let w = told-full (remove_outcome xs st a b) (end p) e in (p, w.0, w.1)

  -- 5: (a, b) shares an offset with some range and lies inside none
  pub remove_boundary : (remove_outcome xs st a b ≡ refusing (refusal.InvalidSegmentBoundary a b))
      ↔ (Passes xs st a b × Shares a b (counted xs st.count) × (Inside a b (counted xs st.count) → ⊥))
  remove_boundary = (to, λ h. bound_of h.0 h.1 h.2)
    where
      to : remove_outcome xs st a b ≡ refusing (refusal.InvalidSegmentBoundary a b) → Passes xs st a b × Shares a b rs × (Inside a b rs → ⊥)
      to e = let p = passed (inr (number_of e)) in let w = told-bound (remove_outcome xs st a b) (end p) e in (p, w.0, w.1)

  -- none: (a, b) shares no offset with the list; the count is as it was
  pub remove_none : (remove_outcome xs st a b ≡ accepted (0 ∷ 0 ∷ st.count ∷ [])) ↔ (Passes xs st a b × (Shares a b (counted xs st.count) → ⊥))
  remove_none = (to, λ h. none_of h.0 h.1)
    where
      to : remove_outcome xs st a b ≡ accepted (0 ∷ 0 ∷ st.count ∷ []) → Passes xs st a b × (Shares a b rs → ⊥)
      to e = let p = passed-by (0 ∷ 0 ∷ st.count ∷ []) e in (p, (told_none 0 st.count (remove_outcome xs st a b) (end p) e).0)

  -- what the list holds after an accepted call
  leaves : (vs : List ℕ) → remove_outcome xs st a b ≡ accepted vs → remove_list xs st a b ≡ stored left st.count xs
  leaves vs e = ap (λ (o : Outcome). lent o (stored left st.count xs) xs) e

  count_left : (w i m : ℕ) → remove_outcome xs st a b ≡ accepted (w ∷ i ∷ m ∷ []) → m ≡ length left
  count_left w i m e = told-count w i m (remove_outcome xs st a b) (end (passed-by (w ∷ i ∷ m ∷ []) e)) e

  ranges : (w i m : ℕ) → remove_outcome xs st a b ≡ accepted (w ∷ i ∷ m ∷ []) → counted (remove_list xs st a b) m ≡ left
  ranges w i m e = rw (leaves (w ∷ i ∷ m ∷ []) e, count_left w i m e) (counted-stored left st.count xs)

  -- after any accepted call, with the count m that it carries: m ranges are counted, they are coalesced, and exactly the offsets of
  -- (a, b) have left
  pub remove_count : (w i m : ℕ) → remove_outcome xs st a b ≡ accepted (w ∷ i ∷ m ∷ []) → length (counted (remove_list xs st a b) m) ≡ m
  remove_count w i m e = ap length (ranges w i m e) ∙ sym (count_left w i m e)

  pub remove_coalesced : (w i m : ℕ) → remove_outcome xs st a b ≡ accepted (w ∷ i ∷ m ∷ []) → Coalesced (counted (remove_list xs st a b) m)
  remove_coalesced w i m e = let p = passed-by (w ∷ i ∷ m ∷ []) e in rw (ranges w i m e) (without-coalesced a b p.ordered rs p.coalesced)

  pub remove_covers : (w i m : ℕ) → remove_outcome xs st a b ≡ accepted (w ∷ i ∷ m ∷ [])
      → (x : ℕ) → Covers x (counted (remove_list xs st a b) m) ↔ (Covers x (counted xs st.count) × Outside a b x)
  remove_covers w i m e x = rw (ranges w i m e) (without_covers a b x rs)

  pub remove_slots : (w i m : ℕ) → remove_outcome xs st a b ≡ accepted (w ∷ i ∷ m ∷ []) → Slots xs st.count (remove_list xs st a b) m
  remove_slots w i m e = rw (leaves (w ∷ i ∷ m ∷ []) e, count_left w i m e) (stored-slots left st.count xs)

  -- after none nothing changed
  pub remove_nothing : remove_outcome xs st a b ≡ accepted (0 ∷ 0 ∷ st.count ∷ []) → remove_list xs st a b ≡ xs
  remove_nothing e =
      let p = passed-by (0 ∷ 0 ∷ st.count ∷ []) e in
      let w = told_none 0 st.count (remove_outcome xs st a b) (end p) e in
      let g = good xs st.count top p.good in
      leaves (0 ∷ 0 ∷ st.count ∷ []) e ∙ rw w.1 (stored_same xs st.count g.room)

  -- under a refusal the list stays as it was
  pub remove_refused : ((remove_outcome xs st a b).number ≡ 0 → ⊥) → remove_list xs st a b ≡ xs
  remove_refused n = lent_old (remove_outcome xs st a b) (stored left st.count xs) xs n

  -- narrow 4 comes before 2 and 3
  pub remove_large : is_bad_store xs st.count (limit_of st.width) ≡ false → (limit_of st.width < a) ⊎ (limit_of st.width < b)
      → remove_outcome xs st a b ≡ refusing refusal.LargeFileSegmentNotSupported
  remove_large g (inl h) = rw (g, lt-ltb top a h)
  remove_large g (inr h) = rw (g, lt-ltb top b h, or_true (ltb top a))
