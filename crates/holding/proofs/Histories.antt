-- After any history of a fresh reception with room for N: held says yes exactly if every offset asked about was kept; the octets kept
-- and those missing add up to the size; accepted data lowers the missing octets by exactly what it has in common with the list; and the
-- list is empty exactly when the kept ranges cover the file.
use mathlib.Core.Path.{◌≡◌, refl, sym, ap, ◌∙◌}
use mathlib.Core.Bool.{Bool, true, false, ◌&&◌, ◌||◌, not, cond, true≢false}
use mathlib.Core.List.{List, [], ◌∷◌}
use mathlib.Core.Logic.{◌⊎◌, inl, inr, ⊎_elim, ◌↔◌}
use Prim.Native.Nat.{ℕ, ◌+◌, ◌*◌, ◌-◌, ◌≤◌, ◌<◌}
use native.Mathlib.Omega.{arith}
use native.Mathlib.Decide.{dec_lt}
use lib.ListN.{length, get_or}
use lib.Dec.{leb}
use borrow.Author.Tests.{leb-true, leb-false, ltb-false, le-ltb, ne_eqb}
use Rattle.ranges.specs.Range.{Range, range, In, Covers, Coalesced, some, shares}
use Rattle.ranges.specs.Store.{most_pairs}
use Rattle.ranges.specs.Without.{Outside}
use Rattle.ranges.specs.declared.Width.{Width}
use Rattle.ranges.proofs.Test.{and_true}
use Rattle.ranges.proofs.Some.{shares-set}
use Rattle.outcomes.specs.Outcome.{Outcome, accepted}
use Rattle.reception.specs.History.{Event, Data, State, fresh, is_accepted, step, run, metadata_came, kept, kept_from, accepted_of, largest_end, told_size, ranges_of}
use Rattle.reception.specs.Record.{Passed}
use Rattle.reception.proofs.Records.{mark_metadata, progress-largest, told-size}
use Rattle.reception.proofs.Sound.{behind_record}
use Rattle.reception.proofs.Histories.{Holds, history, holds, always_sound, effect_kept}
use Rattle.reception.proofs.Answered.{size-is-progress}
use Rattle.reception.proofs.data.Accepted.{taken}
use Rattle.holding.specs.Count.{count_below, is_in, is_covered, octets_below, shared_below}
use Rattle.holding.specs.Held.{span_checks, is_held, held_outcome}
use Rattle.holding.specs.MissingOctets.{missing_octets, missing_octets_outcome}
use Rattle.holding.proofs.Counting.{in_true, covered-set, count_same, count_add, count_all}
use Rattle.holding.proofs.Sizes.{sized_of, run_sized}

-- two tests that say the same
same_tests : (a b : Bool) → (a ≡ true → b ≡ true) → (b ≡ true → a ≡ true) → a ≡ b
same_tests true b f g = sym (f refl)
same_tests false true f g = g refl
same_tests false false f g = refl

-- the two answers differ
yes_not_no : accepted (1 ∷ []) ≡ accepted (0 ∷ []) → ⊥
yes_not_no e = omega (arith, ap (λ (o : Outcome). get_or o.values 0 0) e)

-- the three parts of the test
not-held : (m l s : Bool) → (not m && (l && not s)) ≡ false → (m ≡ true) ⊎ ((l ≡ false) ⊎ (s ≡ true))
not-held true l s e = inl refl
not-held false false s e = inr (inl refl)
not-held false true true e = inr (inr refl)
not-held false true false e = absurd (true≢false e)

is-held : (m l s : Bool) → (not m && (l && not s)) ≡ true → (m ≡ false) × (l ≡ true) × (s ≡ false)
is-held true l s e = absurd (true≢false (sym e))
is-held false false s e = absurd (true≢false (sym e))
is-held false true true e = absurd (true≢false (sym e))
is-held false true false e = (refl, refl, refl)

-- a coalesced list without an offset is empty
none : (rs : List Range) → Coalesced rs → ((x : ℕ) → Covers x rs → ⊥) → rs ≡ []
none [] s f = refl
none (r ∷ rs) s f = absurd (f r.start (inl (omega arith, s.1)))

module _ (w : Width) (xs : List ℕ) (N : ℕ) (size : length xs ≡ 2 * N) (few : N ≤ most_pairs) (es : List Event) where
  abbrev start : State
  start = fresh w xs

  abbrev reached : State
  reached = run start es

  passed : Passed reached.list reached.rec
  passed = always_sound w xs N size few es

  facts : Holds reached N (λ x. Covers x (kept start es)) (accepted_of start es)
  facts = holds w xs N size few es

  -- an offset below progress is missing, or it was kept
  kept-or-missing : (x : ℕ) → x < reached.rec.progress → is_covered (kept start es) x ≡ not (is_covered (ranges_of reached) x)
  kept-or-missing x h = go (is_covered (kept start es) x) (is_covered (ranges_of reached) x) refl refl
    where
      go : (k m : Bool) → is_covered (kept start es) x ≡ k → is_covered (ranges_of reached) x ≡ m → k ≡ not m
      go true true e f = absurd (((facts.exact x).0 ((covered-set (ranges_of reached) x).0 f)).1 ((covered-set (kept start es) x).0 e))
      go true false e f = refl
      go false true e f = refl
      go false false e f =
          let c = (facts.exact x).1 (h, λ k. true≢false (sym ((covered-set (kept start es) x).1 k) ∙ e)) in
          absurd (true≢false (sym ((covered-set (ranges_of reached) x).1 c) ∙ f))

  module _ (a b : ℕ) (nonempty : a < b) where
    answered : held_outcome reached.rec reached.list a b ≡ cond (is_held reached.rec reached.list a b) (accepted (1 ∷ [])) (accepted (0 ∷ []))
    answered =
        sym (behind_record reached.list reached.rec passed (span_checks a b) (cond (is_held reached.rec reached.list a b) (accepted (1 ∷ [])) (accepted (0 ∷ []))))
        ∙ rw (ne_eqb a b (λ e. omega arith), le-ltb b a (omega arith))

    held_to : is_held reached.rec reached.list a b ≡ true → (x : ℕ) → In x (range a b) → Covers x (kept start es)
    held_to e x h =
        let p = is-held reached.rec.missing (leb b reached.rec.progress) (some (shares a b) (ranges_of reached)) e in
        let l : b ≤ reached.rec.progress = leb-true _ _ p.1 in
        go (is_covered (kept start es) x) refl p.2 (omega arith)
      where
        go : (k : Bool) → is_covered (kept start es) x ≡ k → some (shares a b) (ranges_of reached) ≡ false → x < reached.rec.progress → Covers x (kept start es)
        go true f n l = (covered-set (kept start es) x).0 f
        go false f n l =
            let c = (facts.exact x).1 (l, λ k. true≢false (sym ((covered-set (kept start es) x).1 k) ∙ f)) in
            absurd (true≢false (sym ((shares-set a b nonempty (ranges_of reached) facts.standing.whole).1 (x, h, c)) ∙ n))

    -- where it says no there is an offset that was not kept
    lost : is_held reached.rec reached.list a b ≡ false → (x : ℕ) × In x (range a b) × (Covers x (kept start es) → ⊥)
    lost e = go (not-held reached.rec.missing (leb b reached.rec.progress) (some (shares a b) (ranges_of reached)) e)
      where
        go : (reached.rec.missing ≡ true) ⊎ ((leb b reached.rec.progress ≡ false) ⊎ (some (shares a b) (ranges_of reached) ≡ true))
            → (x : ℕ) × In x (range a b) × (Covers x (kept start es) → ⊥)
        go (inl m) = (a, (omega arith, nonempty), facts.none m a)
        go (inr (inl l)) =
            let u : reached.rec.progress < b = leb-false _ _ l in
            (b - 1, (omega arith, omega arith), λ k. let v = facts.below (b - 1) k in omega arith)
        go (inr (inr s)) =
            let v = (shares-set a b nonempty (ranges_of reached) facts.standing.whole).0 s in
            (v.0, v.1, ((facts.exact v.0).0 v.2).1)

    -- held says yes exactly if each offset of (a, b) is covered by a kept range
    pub held-exactly : (held_outcome reached.rec reached.list a b ≡ accepted (1 ∷ [])) ↔ ((x : ℕ) → In x (range a b) → Covers x (kept start es))
    held-exactly = (λ e. to (is_held reached.rec reached.list a b) refl e, λ f. from (is_held reached.rec reached.list a b) refl f)
      where
        to : (t : Bool) → is_held reached.rec reached.list a b ≡ t → held_outcome reached.rec reached.list a b ≡ accepted (1 ∷ [])
            → (x : ℕ) → In x (range a b) → Covers x (kept start es)
        to true f e = held_to f
        to false f e = absurd (yes_not_no (sym e ∙ answered ∙ rw f))

        from : (t : Bool) → is_held reached.rec reached.list a b ≡ t → ((x : ℕ) → In x (range a b) → Covers x (kept start es))
            → held_outcome reached.rec reached.list a b ≡ accepted (1 ∷ [])
        from true f g = answered ∙ rw f
        from false f g = let v = lost f in absurd (v.2 (g v.0 v.1))

    -- and no exactly if one of them is not
    pub not-held-exactly : (held_outcome reached.rec reached.list a b ≡ accepted (0 ∷ [])) ↔ ((x : ℕ) × In x (range a b) × (Covers x (kept start es) → ⊥))
    not-held-exactly = (λ e. to (is_held reached.rec reached.list a b) refl e, λ v. from (is_held reached.rec reached.list a b) refl v)
      where
        to : (t : Bool) → is_held reached.rec reached.list a b ≡ t → held_outcome reached.rec reached.list a b ≡ accepted (0 ∷ [])
            → (x : ℕ) × In x (range a b) × (Covers x (kept start es) → ⊥)
        to true f e = absurd (yes_not_no (sym (answered ∙ rw f) ∙ e))
        to false f e = lost f

        from : (t : Bool) → is_held reached.rec reached.list a b ≡ t → ((x : ℕ) × In x (range a b) × (Covers x (kept start es) → ⊥))
            → held_outcome reached.rec reached.list a b ≡ accepted (0 ∷ [])
        from true f v = absurd (v.2 (held_to f v.0 v.1))
        from false f v = answered ∙ rw f

  -- missing_octets answers how many offsets below the largest accepted end no kept range covers
  pub missing_counted : missing_octets_outcome reached.rec reached.list ≡ accepted (count_below (λ x. not (is_covered (kept start es) x)) (largest_end start es) ∷ [])
  missing_counted =
      sym (behind_record reached.list reached.rec passed [] (accepted (missing_octets reached.rec reached.list ∷ [])))
      ∙ ap (λ (n : ℕ). accepted (n ∷ [])) (count_same (is_covered (ranges_of reached)) (λ x. not (is_covered (kept start es) x)) reached.rec.progress other
      ∙ ap (count_below (λ x. not (is_covered (kept start es) x))) (progress-largest w xs es))
    where
      other : (x : ℕ) → x < reached.rec.progress → is_covered (ranges_of reached) x ≡ not (is_covered (kept start es) x)
      other x h = rw (kept-or-missing x h) (twice (is_covered (ranges_of reached) x))
        where
          twice : (t : Bool) → t ≡ not (not t)
          twice true = refl
          twice false = refl

  -- once an EOF told the size z
  module _ (z : ℕ) (told : told_size start es ≡ z ∷ []) where
    progress-size : reached.rec.progress ≡ z
    progress-size = size-is-progress w xs N size few es z told

    -- the octets held, counted from the kept ranges as a set, and the octets in the list are together the size
    pub held-and-missing : octets_below z (kept start es) + missing_octets reached.rec reached.list ≡ z
    held-and-missing = rw progress-size (sym (count_add all (is_covered (kept start es)) (is_covered (ranges_of reached)) z either one) ∙ count_all all z (λ x h. refl))
      where
        all : ℕ → Bool
        all x = true

        below : (x : ℕ) → x < z → is_covered (kept start es) x ≡ not (is_covered (ranges_of reached) x)
        below x h = kept-or-missing x (omega (arith, progress-size))

        either : (x : ℕ) → x < z → true ≡ (is_covered (kept start es) x || is_covered (ranges_of reached) x)
        either x h = rw (below x h) (whole (is_covered (ranges_of reached) x))
          where
            whole : (t : Bool) → true ≡ (not t || t)
            whole true = refl
            whole false = refl

        one : (x : ℕ) → x < z → is_covered (kept start es) x ≡ true → is_covered (ranges_of reached) x ≡ false
        one x h e = go (is_covered (ranges_of reached) x) refl (sym (below x h) ∙ e)
          where
            go : (t : Bool) → is_covered (ranges_of reached) x ≡ t → not t ≡ true → is_covered (ranges_of reached) x ≡ false
            go true f g = absurd (true≢false (sym g))
            go false f g = f

    -- so missing_octets answers the size without the octets held
    pub missing-rest : missing_octets_outcome reached.rec reached.list ≡ accepted ((z - octets_below z (kept start es)) ∷ [])
    missing-rest =
        sym (behind_record reached.list reached.rec passed [] (accepted (missing_octets reached.rec reached.list ∷ [])))
        ∙ ap (λ (n : ℕ). accepted (n ∷ [])) (omega (arith, held-and-missing))

    -- the list is empty exactly when the kept ranges cover the file
    pub empty-exactly : (ranges_of reached ≡ []) ↔ ((x : ℕ) → x < z → Covers x (kept start es))
    empty-exactly = (to, λ f. none (ranges_of reached) facts.standing.whole (λ x c. let e = (facts.exact x).0 c in e.1 (f x (omega (arith, e.0, progress-size)))))
      where
        to : ranges_of reached ≡ [] → (x : ℕ) → x < z → Covers x (kept start es)
        to e x h = (covered-set (kept start es) x).0 (kept-or-missing x (omega (arith, progress-size)) ∙ ap (λ (rs : List Range). not (is_covered rs x)) e)

    abbrev after : ℕ → ℕ → State
    after o n = step reached (Data o n)

    -- an accepted data event while the metadata is not missing
    module _ (o n : ℕ) (taken-now : is_accepted reached (Data o n) ≡ true) (marked : reached.rec.missing ≡ false) where
      inside : o + n ≤ z
      inside =
          let k = (taken reached.rec reached.list o n taken-now).checks.within in
          let s = sized_of reached.rec z (told-size w xs es ∙ told) in
          let u : o + n ≤ reached.rec.size = ltb-false _ _ (rw s.0 at k) in
          omega (arith, u, s.1)

      progress-stays : (after o n).rec.progress ≡ z
      progress-stays = rw taken-now (omega (arith, inside, progress-size))

      effect : (x : ℕ) → Covers x (ranges_of (after o n)) ↔ ((Covers x (ranges_of reached) × Outside o (o + n) x) ⊎ In x (range reached.rec.progress o))
      effect x = effect_kept w xs N size few es o n taken-now marked x

      lowering : missing_octets reached.rec reached.list ≡ missing_octets (after o n).rec (after o n).list + shared_below z (range o (o + n)) (ranges_of reached)
      lowering =
          ap (λ (p : ℕ). octets_below p (ranges_of reached)) progress-size
          ∙ count_add (is_covered (ranges_of reached)) (is_covered (ranges_of (after o n))) shared z either one
          ∙ ap (λ (p : ℕ). octets_below p (ranges_of (after o n)) + shared_below z (range o (o + n)) (ranges_of reached)) (sym progress-stays)
        where
          shared : ℕ → Bool
          shared x = is_covered (ranges_of reached) x && is_in x (range o (o + n))

          either : (x : ℕ) → x < z → is_covered (ranges_of reached) x ≡ (is_covered (ranges_of (after o n)) x || shared x)
          either x h =
              go (is_covered (ranges_of reached) x) (is_covered (ranges_of (after o n)) x) (is_in x (range o (o + n))) refl refl refl
            where
              go : (b a i : Bool) → is_covered (ranges_of reached) x ≡ b → is_covered (ranges_of (after o n)) x ≡ a → is_in x (range o (o + n)) ≡ i → b ≡ (a || (b && i))
              go true true i e f g = refl
              go true false true e f g = refl
              go true false false e f g = absurd (true≢false (sym ((covered-set (ranges_of (after o n)) x).1 ((effect x).1 (inl ((covered-set (ranges_of reached) x).0 e, out g)))) ∙ f))
                where
                  out : is_in x (range o (o + n)) ≡ false → Outside o (o + n) x
                  out g = side (dec_lt x o) (dec_lt x (o + n))
                    where
                      side : Dec (x < o) → Dec (x < o + n) → Outside o (o + n) x
                      side (yes u) d = inl u
                      side (no u) (yes v) = absurd (true≢false (sym ((in_true x (range o (o + n))).1 (omega arith, v)) ∙ g))
                      side (no u) (no v) = inr (omega arith)
              go false true i e f g =
                  absurd (⊎_elim
                  (λ (c : Covers x (ranges_of reached) × Outside o (o + n) x). true≢false (sym ((covered-set (ranges_of reached) x).1 c.0) ∙ e))
                  (λ (c : In x (range reached.rec.progress o)). omega (arith, c.0, c.1, inside, progress-size))
                  ((effect x).0 ((covered-set (ranges_of (after o n)) x).0 f)))
              go false false i e f g = refl

          one : (x : ℕ) → x < z → is_covered (ranges_of (after o n)) x ≡ true → shared x ≡ false
          one x h e = go (shared x) refl
            where
              go : (t : Bool) → shared x ≡ t → shared x ≡ false
              go true f =
                  let p = and_true (is_covered (ranges_of reached) x) (is_in x (range o (o + n))) f in
                  let i = (in_true x (range o (o + n))).0 p.1 in
                  absurd (⊎_elim
                  (λ (c : Covers x (ranges_of reached) × Outside o (o + n) x). ⊎_elim (λ (u : x < o). omega (arith, i.0)) (λ (u : o + n ≤ x). omega (arith, i.1)) c.1)
                  (λ (c : In x (range reached.rec.progress o)). omega (arith, c.0, c.1, inside, progress-size))
                  ((effect x).0 ((covered-set (ranges_of (after o n)) x).0 e)))
              go false f = f

    -- an accepted data event while the metadata is known
    module _ (known : metadata_came start es ≡ true) (o n : ℕ) (taken-now : is_accepted reached (Data o n) ≡ true) where
      -- it lowers the missing octets by exactly what it has in common with the list
      pub lowered : missing_octets reached.rec reached.list ≡ missing_octets (after o n).rec (after o n).list + shared_below z (range o (o + n)) (ranges_of reached)
      lowered = lowering o n taken-now (mark_metadata w xs es ∙ ap not known)

      -- so no accepted data event raises them
      pub never-raised : missing_octets (after o n).rec (after o n).list ≤ missing_octets reached.rec reached.list
      never-raised = let e = lowering o n taken-now (mark_metadata w xs es ∙ ap not known) in omega (arith, e)

  -- later events that keep every offset of the list leave an empty list, once the metadata came and the size was told
  pub filled : metadata_came start es ≡ true → (z : ℕ) → told_size start es ≡ z ∷ [] → (ds : List Event)
      → ((x : ℕ) → Covers x (ranges_of reached) → Covers x (kept_from true reached ds)) → ranges_of (run reached ds) ≡ []
  filled known z told ds f = none (ranges_of (run reached ds)) later.standing.whole absent
    where
      later : Holds (run reached ds) N (λ x. Covers x (kept_from true reached ds) ⊎ Covers x (kept start es)) (accepted_of reached ds + accepted_of start es)
      later = history ds reached N (λ x. Covers x (kept start es)) (accepted_of start es) true (mark_metadata w xs es ∙ ap not known) facts

      stays : (run reached ds).rec.progress ≡ z
      stays =
          let s = sized_of (run reached ds).rec z (run_sized ds reached z (told-size w xs es ∙ told)) in
          later.standing.told s.0 ∙ s.1

      absent : (x : ℕ) → Covers x (ranges_of (run reached ds)) → ⊥
      absent x c = go (is_covered (ranges_of reached) x) refl ((later.exact x).0 c)
        where
          go : (t : Bool) → is_covered (ranges_of reached) x ≡ t → (x < (run reached ds).rec.progress) × ((Covers x (kept_from true reached ds) ⊎ Covers x (kept start es)) → ⊥) → ⊥
          go true k e = e.1 (inl (f x ((covered-set (ranges_of reached) x).0 k)))
          go false k e = e.1 (inr ((covered-set (kept start es) x).0 (kept-or-missing x (omega (arith, e.0, stays, size-is-progress w xs N size few es z told)) ∙ rw k)))
