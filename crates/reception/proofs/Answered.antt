-- What every event is answered after any list of events, said of the events, the width and the room alone: the metadata event; a data
-- event that is empty or too long; and an otherwise valid one, by the room rule on the runs of the offsets that would be missing.
use mathlib.Core.Path.{◌≡◌, refl, sym, ap, ◌∙◌}
use mathlib.Core.Bool.{Bool, true, false, ◌&&◌, ◌||◌, not, cond, true≢false}
use mathlib.Core.List.{List, [], ◌∷◌}
use mathlib.Core.Logic.{inl, inr, ⊎_elim, ◌↔◌}
use Prim.Native.Nat.{ℕ, ◌+◌, ◌*◌, ◌≤◌, ◌<◌, max}
use native.Mathlib.Omega.{arith}
use native.Mathlib.Decide.{dec_lt}
use lib.ListN.{length, get_or}
use lib.Dec.{ltb, eqb}
use borrow.Author.Tests.{lt-ltb, le-ltb, ltb-false}
use Rattle.ranges.proofs.Test.{or_false}
use Rattle.ranges.specs.Range.{Range, Covers, Coalesced}
use Rattle.ranges.specs.Run.{RunsOf}
use Rattle.ranges.specs.Store.{capacity, limit_of, most_pairs}
use Rattle.outcomes.specs.Outcome.{Outcome, accepted}
use Rattle.outcomes.specs.declared.Refusal.TheVariants as refusal
use Rattle.outcomes.specs.Refusal.{refusing}
use Rattle.outcomes.specs.Checks.{first_of}
use Rattle.outcomes.specs.declared.Refusal.{Refusal}
use Rattle.ranges.specs.declared.Width.{Width}
use Rattle.ranges.proofs.Runs.{runs_of, one-runs}
use Rattle.ranges.proofs.Stored.{counted-stored}
use Rattle.ranges.proofs.Without.{part_covers}
use Rattle.reception.specs.Record.{record_checks, Passed}
use Rattle.reception.specs.declared.Reception.{Reception}
use Rattle.reception.specs.Data.{data_leaves, largest_number, is_too_long, is_past_size, segment_checks, room_outcome, data_outcome}
use Rattle.reception.specs.Metadata.{mark_checks, metadata_outcome}
use Rattle.reception.specs.Eof.{eof_leaves, is_other_size, size_checks, tail_outcome, eof_outcome}
use Rattle.reception.specs.History.{
  Event,
  Data,
  Metadata,
  Eof,
  State,
  fresh,
  outcome,
  is_accepted,
  step,
  run,
  metadata_came,
  largest_end,
  WouldMiss,
  WouldMissTail,
  kept_or_noticed,
  ranges_of,
  told_size,
  is_past_told,
  is_other_told,
}
use Rattle.reception.proofs.Keeping.{kept_covers}
use Rattle.reception.proofs.Standing.{after-whole}
use Rattle.reception.proofs.Sound.{behind_record, refused_record}
use Rattle.reception.proofs.Records.{progress-largest, mark_metadata, width_same, size_of, told-size}
use Rattle.reception.proofs.Histories.{holds, missing_exact, always_sound, left_by}
use Rattle.reception.proofs.data.Answers.{data-empty, data-long, data-large, data-past, data_full, data-taken}
use Rattle.reception.proofs.eof.Answers.{eof_large, eof-other, eof_full, eof-ended}
use Rattle.reception.proofs.eof.Tail.{tail-whole, tail_covers}
use Rattle.reception.proofs.data.Accepted.{taken}

-- what the mark answers, said of the metadata
told_by_mark : (m c : Bool) → m ≡ not c → cond m (accepted (0 ∷ [])) (accepted (1 ∷ [])) ≡ cond c (accepted (1 ∷ [])) (accepted (0 ∷ []))
told_by_mark m true e = rw e
told_by_mark m false e = rw e

-- no accepted answer is a refusal
kept-apart : (c : Bool) → cond c (accepted (1 ∷ [])) (accepted (0 ∷ [])) ≡ (refusing refusal.StoreFull) → ⊥
kept-apart true e = omega (arith, ap (λ (o : Outcome). o.number) e)
kept-apart false e = omega (arith, ap (λ (o : Outcome). o.number) e)

-- the two accepted answers differ
none-noticed : accepted (1 ∷ []) ≡ accepted (0 ∷ []) → ⊥
none-noticed e = omega (arith, ap (λ (o : Outcome). get_or o.values 0 0) e)

noticed_if : (c : Bool) → (cond c (accepted (1 ∷ [])) (accepted (0 ∷ [])) ≡ accepted (0 ∷ [])) ↔ (c ≡ false)
noticed_if true = (λ e. absurd (none-noticed e), λ e. absurd (true≢false e))
noticed_if false = (λ e. refl, λ e. refl)

kept_if : (c : Bool) → (cond c (accepted (1 ∷ [])) (accepted (0 ∷ [])) ≡ accepted (1 ∷ [])) ↔ (c ≡ true)
kept_if true = (λ e. refl, λ e. refl)
kept_if false = (λ e. absurd (none-noticed (sym e)), λ e. absurd (true≢false (sym e)))

-- a record that is not sound is answered by the first of 10, 8 and 12 that it fails, whatever the event
module _ (xs : List ℕ) (rec : Reception) (r : Refusal) (f : refusing r ≡ first_of (record_checks rec xs) (accepted [])) where
  pub unsound_data : (o z : ℕ) → data_outcome rec xs o z ≡ refusing r
  unsound_data o z = sym (refused_record xs rec r (segment_checks rec o z) (room_outcome rec xs o z) f)

  pub unsound_eof : (z : ℕ) → eof_outcome rec xs z ≡ refusing r
  unsound_eof z = sym (refused_record xs rec r (size_checks rec z) (tail_outcome rec xs z) f)

  pub unsound_metadata : metadata_outcome rec xs ≡ refusing r
  unsound_metadata = sym (refused_record xs rec r (mark_checks rec) (accepted []) f)

-- after any events of a fresh reception with room for N, whatever the lent list holds
module _ (w : Width) (xs : List ℕ) (N : ℕ) (size : length xs ≡ 2 * N) (few : N ≤ most_pairs) (es : List Event) where
  abbrev start : State
  start = fresh w xs

  abbrev before : State
  before = run start es

  progress : before.rec.progress ≡ largest_end start es
  progress = progress-largest w xs es

  passed : Passed before.list before.rec
  passed = always_sound w xs N size few es

  -- the metadata event is accepted if none was accepted before, and else it is already known
  pub metadata-answered : outcome before Metadata ≡ cond (metadata_came start es) (refusing refusal.AlreadyKnown) (accepted [])
  metadata-answered =
      sym (behind_record before.list before.rec passed (mark_checks before.rec) (accepted []))
      ∙ go (metadata_came start es) before.rec.missing (mark_metadata w xs es)
    where
      go : (c m : Bool) → m ≡ not c → cond (not m) (refusing refusal.AlreadyKnown) (accepted []) ≡ cond c (refusing refusal.AlreadyKnown) (accepted [])
      go true m e = rw e
      go false m e = rw e

  -- the size that the record has is the one told
  past-told : (end : ℕ) → is_past_size before.rec end ≡ is_past_told (told_size start es) end
  past-told end = go before.rec.sized refl ∙ ap (λ (zs : List ℕ). is_past_told zs end) (told-size w xs es)
    where
      go : (t : Bool) → before.rec.sized ≡ t → is_past_size before.rec end ≡ is_past_told (size_of before.rec) end
      go true e = rw e
      go false e = rw e

  other-told : (z : ℕ) → (before.rec.sized && not (eqb z before.rec.size)) ≡ is_other_told (told_size start es) z
  other-told z = go before.rec.sized refl ∙ ap (λ (zs : List ℕ). is_other_told zs z) (told-size w xs es)
    where
      go : (t : Bool) → before.rec.sized ≡ t → (before.rec.sized && not (eqb z before.rec.size)) ≡ is_other_told (size_of before.rec) z
      go true e = rw e
      go false e = rw e

  -- once a size was told, progress is that size
  pub size-is-progress : (y : ℕ) → told_size start es ≡ y ∷ [] → before.rec.progress ≡ y
  size-is-progress y e = go before.rec.sized refl (told-size w xs es ∙ e)
    where
      go : (t : Bool) → before.rec.sized ≡ t → size_of before.rec ≡ y ∷ [] → before.rec.progress ≡ y
      go true f g =
          let k : before.rec.size ∷ [] ≡ y ∷ [] = rw f at g in
          (holds w xs N size few es).standing.told f ∙ ap (λ (zs : List ℕ). get_or zs 0 0) k
      go false f g =
          let k : [] ≡ y ∷ [] = rw f at g in
          absurd (omega (arith, ap (λ (zs : List ℕ). length zs) k))

  module _ (o z : ℕ) where
    -- a data event of length 0
    pub empty-refused : z ≡ 0 → outcome before (Data o z) ≡ (refusing refusal.EmptySegment)
    empty-refused e = sym (data-empty before.rec before.list o z passed e)

    module _ (some : z ≡ 0 → ⊥) where
      -- one whose end is above 2^64 - 1
      pub long-refused : largest_number < o + z → outcome before (Data o z) ≡ (refusing refusal.RangeTooLong)
      long-refused h = sym (data-long before.rec before.list o z passed some (rw (lt-ltb largest_number (o + z) h)))

      -- one whose end is above the width's limit
      pub large-refused : o + z ≤ largest_number → limit_of w < o + z → outcome before (Data o z) ≡ (refusing refusal.LargeFileSegmentNotSupported)
      large-refused s h = sym (data-large before.rec before.list o z passed some (rw (le-ltb largest_number (o + z) s)) (rw (width_same w xs es) h))

      -- one whose end is past the size that was told
      pub past-refused : o + z ≤ largest_number → o + z ≤ limit_of w → is_past_told (told_size start es) (o + z) ≡ true → outcome before (Data o z) ≡ refusing refusal.FileSizeError
      past-refused s h p = sym (data-past before.rec before.list o z passed some (rw (le-ltb largest_number (o + z) s)) (rw (width_same w xs es) h) (past-told (o + z) ∙ p))

      -- the list that the event would leave
      abbrev would : List Range
      would = data_leaves before.rec before.list o z

      ordered : o < o + z
      ordered = omega (arith, some)

      would-whole : Coalesced would
      would-whole =
          let g = (holds w xs N size few es).standing in
          after-whole before.rec.missing before.rec.progress o (o + z) (ranges_of before) ordered g.whole g.last

      would-exact : (x : ℕ) → Covers x would ↔ WouldMiss start es o z x
      would-exact x = go (metadata_came start es) refl
        where
          go : (c : Bool) → metadata_came start es ≡ c → Covers x would ↔ WouldMiss start es o z x
          go true e =
              let g = (holds w xs N size few es).standing in
              let k = kept_covers before.rec.progress o (o + z) (ranges_of before) ordered g.whole g.last x in
              let i = missing_exact w xs N size few es x in
              rw (mark_metadata w xs es, e) (
                λ h. ⊎_elim (λ g. inl (i.0 g.0, g.1)) (λ g. inr (omega (arith, progress), g.1)) (k.0 h),
                ⊎_elim (λ g. k.1 (inl (i.1 g.0, g.1))) (λ g. k.1 (inr (omega (arith, progress), g.1))),
              )
          go false e =
              let k = part_covers x 0 (max before.rec.progress (o + z)) in
              rw (mark_metadata w xs es, e) (λ h. let u = (k.0 h).1 in omega (arith, progress), λ h. k.1 (omega arith, omega (arith, progress)))

      -- it is the list of the maximal runs of the offsets that would be missing, and a set has no other
      would-runs : RunsOf (WouldMiss start es o z) would
      would-runs = runs_of (WouldMiss start es o z) would would-whole would-exact

      -- there is such a list
      pub some_runs : (rs : List Range) × RunsOf (WouldMiss start es o z) rs
      some_runs = (would, would-runs)

      -- the room rule, for an otherwise valid event and the runs of the offsets that would be missing
      module _ (short : o + z ≤ largest_number) (small : o + z ≤ limit_of w) (within : is_past_told (told_size start es) (o + z) ≡ false) (rs : List Range) (runs : RunsOf (WouldMiss start es o z) rs) where
        as_long : length rs ≡ length would
        as_long = ap length (one-runs (WouldMiss start es o z) rs would runs would-runs)

        room : capacity before.list ≡ N
        room = let k = (holds w xs N size few es).standing.size in omega arith

        below : o + z ≤ limit_of before.rec.width
        below = rw (width_same w xs es) small

        -- check 9 passes
        fits : is_too_long o z ≡ false
        fits = rw (le-ltb largest_number (o + z) short)

        inside : is_past_size before.rec (o + z) ≡ false
        inside = past-told (o + z) ∙ within

        full : N < length rs → outcome before (Data o z) ≡ (refusing refusal.StoreFull)
        full h = sym (data_full before.rec before.list o z passed some fits below inside (rw (lt-ltb (capacity before.list) (length would) (omega (arith, room, as_long)))))

        enough : length rs ≤ N → outcome before (Data o z) ≡ kept_or_noticed start es
        enough h =
            sym (data-taken before.rec before.list o z passed some fits below inside (rw (le-ltb (capacity before.list) (length would) (omega (arith, room, as_long)))))
            ∙ told_by_mark before.rec.missing (metadata_came start es) (mark_metadata w xs es)

        -- it is refused with 1 exactly if there are more than N
        pub room-full : (outcome before (Data o z) ≡ (refusing refusal.StoreFull)) ↔ (N < length rs)
        room-full = (λ e. go e (dec_lt N (length rs)), full)
          where
            go : outcome before (Data o z) ≡ (refusing refusal.StoreFull) → Dec (N < length rs) → N < length rs
            go e (yes h) = h
            go e (no h) = absurd (kept-apart (metadata_came start es) (sym (enough (omega arith)) ∙ e))

        -- it is accepted exactly if there are at most N, and told to be kept or noticed
        pub room-enough : (outcome before (Data o z) ≡ kept_or_noticed start es) ↔ (length rs ≤ N)
        room-enough = (λ e. go e (dec_lt N (length rs)), enough)
          where
            go : outcome before (Data o z) ≡ kept_or_noticed start es → Dec (N < length rs) → length rs ≤ N
            go e (yes h) = absurd (kept-apart (metadata_came start es) (sym e ∙ full h))
            go e (no h) = omega arith

    -- an accepted data event is told to be kept if a metadata event was accepted before it, else to be noticed
    pub accepted-answered : is_accepted before (Data o z) ≡ true → outcome before (Data o z) ≡ kept_or_noticed start es
    accepted-answered f =
        let t = taken before.rec before.list o z f in
        sym (data-taken before.rec before.list o z passed t.checks.some t.checks.short t.checks.small t.checks.within t.free)
        ∙ told_by_mark before.rec.missing (metadata_came start es) (mark_metadata w xs es)

    -- so each of the two is told exactly then
    pub noticed-exactly : is_accepted before (Data o z) ≡ true → (outcome before (Data o z) ≡ accepted (0 ∷ [])) ↔ (metadata_came start es ≡ false)
    noticed-exactly f = rw (accepted-answered f) (noticed_if (metadata_came start es))

    pub kept-exactly : is_accepted before (Data o z) ≡ true → (outcome before (Data o z) ≡ accepted (1 ∷ [])) ↔ (metadata_came start es ≡ true)
    kept-exactly f = rw (accepted-answered f) (kept_if (metadata_came start es))

    -- and it leaves the runs of the offsets that were said to be missing then
    pub accepted-leaves : is_accepted before (Data o z) ≡ true → RunsOf (WouldMiss start es o z) (ranges_of (step before (Data o z)))
    accepted-leaves f = rw (left_by w xs N size few es o z f) (would-runs (taken before.rec before.list o z f).checks.some)

  -- the end of file with the size z
  module _ (z : ℕ) where
    -- a size above the width's limit
    pub eof-large-refused : limit_of w < z → outcome before (Eof z) ≡ refusing refusal.LargeFileSegmentNotSupported
    eof-large-refused h = sym (eof_large before.rec before.list z passed (rw (width_same w xs es) h))

    module _ (small : z ≤ limit_of w) where
      below-limit : z ≤ limit_of before.rec.width
      below-limit = rw (width_same w xs es) small

      -- a size below the largest accepted end, or another than the one told
      abbrev is_other : Bool
      is_other = ltb z (largest_end start es) || is_other_told (told_size start es) z

      other-said : is_other_size before.rec z ≡ (ltb z (largest_end start es) || is_other_told (told_size start es) z)
      other-said = rw (progress, other-told z)

      pub eof-other-refused : (ltb z (largest_end start es) || is_other_told (told_size start es) z) ≡ true → outcome before (Eof z) ≡ refusing refusal.FileSizeError
      eof-other-refused h = sym (eof-other before.rec before.list z passed below-limit (other-said ∙ h))

      module _ (same : (ltb z (largest_end start es) || is_other_told (told_size start es) z) ≡ false) where
        -- the list that the event would leave
        abbrev tail : List Range
        tail = eof_leaves before.rec before.list z

        above : before.rec.progress ≤ z
        above = let k : largest_end start es ≤ z = ltb-false _ _ (or_false (ltb z (largest_end start es)) _ same).0 in omega (arith, progress)

        tail-exact : (x : ℕ) → Covers x tail ↔ WouldMissTail start es z x
        tail-exact x = go (metadata_came start es) refl
          where
            go : (c : Bool) → metadata_came start es ≡ c → Covers x tail ↔ WouldMissTail start es z x
            go true e =
                let g = (holds w xs N size few es).standing in
                let k = tail_covers before.rec.progress z (ranges_of before) g.whole x in
                let i = missing_exact w xs N size few es x in
                rw (mark_metadata w xs es, e) (
                  λ h. ⊎_elim (λ g. inl (i.0 g)) (λ g. inr (omega (arith, progress), g.1)) (k.0 h),
                  ⊎_elim (λ g. k.1 (inl (i.1 g))) (λ g. k.1 (inr (omega (arith, progress), g.1))),
                )
            go false e = let k = part_covers x 0 z in rw (mark_metadata w xs es, e) (λ h. (k.0 h).1, λ h. k.1 (omega arith, h))

        tail-runs : RunsOf (WouldMissTail start es z) tail
        tail-runs = runs_of (WouldMissTail start es z) tail (tail-whole before.rec.missing before.rec.progress z (ranges_of before) (holds w xs N size few es).standing.whole) tail-exact

        -- there is such a list
        pub some-tail-runs : (rs : List Range) × RunsOf (WouldMissTail start es z) rs
        some-tail-runs = (tail, tail-runs)

        -- the room rule, for the runs of the offsets that would be missing
        module _ (rs : List Range) (runs : RunsOf (WouldMissTail start es z) rs) where
          tail-long : length rs ≡ length tail
          tail-long = ap length (one-runs (WouldMissTail start es z) rs tail runs tail-runs)

          tail-room : capacity before.list ≡ N
          tail-room = let k = (holds w xs N size few es).standing.size in omega arith

          tail-full : N < length rs → outcome before (Eof z) ≡ refusing refusal.StoreFull
          tail-full h =
              sym (eof_full before.rec before.list z passed below-limit (other-said ∙ same) (rw (lt-ltb (capacity before.list) (length tail) (omega (arith, tail-room, tail-long)))))

          tail-enough : length rs ≤ N → outcome before (Eof z) ≡ accepted []
          tail-enough h =
              sym (eof-ended before.rec before.list z passed below-limit (other-said ∙ same) (rw (le-ltb (capacity before.list) (length tail) (omega (arith, tail-room, tail-long)))))

          apart-full : accepted [] ≡ refusing refusal.StoreFull → ⊥
          apart-full e = omega (arith, ap (λ (o : Outcome). o.number) e)

          -- it is refused with 1 exactly if there are more than N
          pub eof-room-full : (outcome before (Eof z) ≡ refusing refusal.StoreFull) ↔ (N < length rs)
          eof-room-full = (λ e. go e (dec_lt N (length rs)), tail-full)
            where
              go : outcome before (Eof z) ≡ refusing refusal.StoreFull → Dec (N < length rs) → N < length rs
              go e (yes h) = h
              go e (no h) = absurd (apart-full (sym (tail-enough (omega arith)) ∙ e))

          -- it is accepted exactly if there are at most N
          pub eof-room-enough : (outcome before (Eof z) ≡ accepted []) ↔ (length rs ≤ N)
          eof-room-enough = (λ e. go e (dec_lt N (length rs)), tail-enough)
            where
              go : outcome before (Eof z) ≡ accepted [] → Dec (N < length rs) → length rs ≤ N
              go e (yes h) = absurd (apart-full (sym e ∙ tail-full h))
              go e (no h) = omega arith

        -- and where it is accepted it leaves those runs
        pub eof-leaves : is_accepted before (Eof z) ≡ true → RunsOf (WouldMissTail start es z) (ranges_of (step before (Eof z)))
        eof-leaves f = rw (f, counted-stored tail before.rec.count before.list) tail-runs
