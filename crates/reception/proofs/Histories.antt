-- From a fresh reception with room for N, after any list of events, accepted and refused mixed: the list is exactly the maximal runs
-- of the octets below the largest accepted end that no kept range covers; it is coalesced and ends at progress or before; it has at
-- most as many runs as events were accepted; and every event finds a sound record.
use mathlib.Core.Path.{◌≡◌, refl, sym, ◌∙◌}
use mathlib.Core.Bool.{Bool, true, false, ◌&&◌, ◌||◌, not, cond, true≢false}
use mathlib.Core.List.{List, [], ◌∷◌}
use mathlib.Core.Logic.{◌⊎◌, inl, inr, ⊎_elim, ◌↔◌}
use Prim.Native.Nat.{ℕ, zero, suc, ◌+◌, ◌*◌, ◌≤◌, ◌<◌, max}
use native.Mathlib.Omega.{arith}
use native.Mathlib.Decide.{dec_lt}
use lib.ListN.{length}
use borrow.Author.Tests.{ltb-false}
use Rattle.ranges.specs.Range.{Range, range, In, Covers, Coalesced, last_end}
use Rattle.ranges.specs.Run.{RunsOf}
use Rattle.ranges.specs.Store.{stored, most_pairs}
use Rattle.ranges.specs.Without.{Outside}
use Rattle.ranges.specs.declared.Width.{Width}
use Rattle.ranges.proofs.Runs.{runs_of}
use Rattle.ranges.proofs.Stored.{counted-stored}
use Rattle.ranges.proofs.Without.{part_covers, length_part}
use Rattle.reception.specs.Record.{waiting_ranges, known as cleared, ended, Passed}
use Rattle.ranges.specs.Insert.{join}
use Rattle.reception.specs.Eof.{eof_leaves}
use Rattle.reception.proofs.eof.Accepted.{EofTaken, eof_taken}
use Rattle.reception.proofs.eof.Tail.{tail-whole, tail_covers, tail-last, tail-length}
use Rattle.reception.specs.Data.{kept_ranges, data_leaves, advanced}
use Rattle.reception.specs.History.{Event, Data, Metadata, Eof, State, fresh, is_accepted, step, run, is_metadata_come, kept_by, kept_from, kept, accepted_of, Missing, ranges_of}
use Rattle.reception.proofs.Keeping.{kept_covers, length-kept}
use Rattle.reception.proofs.Records.{refused-same, step_mark, progress-largest}
use Rattle.reception.proofs.Standing.{Standing, standing-passed, standing-stored, standing-ended, standing-fresh, after-whole, after_last}
use Rattle.reception.proofs.data.Accepted.{Taken, taken}

-- what holds on the way: P are the offsets kept so far, n the events accepted
pub record Holds (s : State) (N : ℕ) (P : ℕ → Type 0) (n : ℕ) : Type 0 where
  pub standing : Standing s N
  pub exact : (x : ℕ) → Covers x (ranges_of s) ↔ ((x < s.rec.progress) × (P x → ⊥))
  pub below : (x : ℕ) → P x → x < s.rec.progress
  pub none : s.rec.missing ≡ true → (x : ℕ) → P x → ⊥
  pub runs : length (ranges_of s) ≤ n

pub holds_same : (s : State) (N : ℕ) (P Q : ℕ → Type 0) (n m : ℕ) → n ≤ m → ((x : ℕ) → P x ↔ Q x) → Holds s N P n → Holds s N Q m
holds_same s N P Q n m k f h =
    let r = h.runs in
    record {
      standing = h.standing;
      exact = λ x. (
        λ c. let w = (h.exact x).0 c in (w.0, λ q. w.1 ((f x).1 q)),
        λ w. (h.exact x).1 (w.0, λ p. w.1 ((f x).0 p)),
      );
      below = λ x q. h.below x ((f x).1 q);
      none = λ e x q. h.none e x ((f x).1 q);
      runs = omega arith;
    }

-- an accepted data event
module _ (s : State) (N : ℕ) (P : ℕ → Type 0) (n : ℕ) (h : Holds s N P n) (o z : ℕ) (t : Taken s.rec s.list o z) where
  next : State
  next = record { rec = advanced s.rec s.list o z; list = stored (data_leaves s.rec s.list o z) s.rec.count s.list }

  ordered : o < o + z
  ordered = let k = t.checks.some in omega arith

  now : ranges_of next ≡ data_leaves s.rec s.list o z
  unfolding next
  now = counted-stored (data_leaves s.rec s.list o z) s.rec.count s.list

  stands : Standing next N
  unfolding next
  stands =
      let g = h.standing in
      let c = g.size in
      let r = t.room in
      let u = t.checks.small in
      let v = g.small in
      standing-stored s N g (data_leaves s.rec s.list o z) (max s.rec.progress (o + z)) (omega arith)
      (after-whole s.rec.missing s.rec.progress o (o + z) (ranges_of s) ordered g.whole g.last)
      (after_last s.rec.missing s.rec.progress o (o + z) (ranges_of s) ordered g.whole g.last)
      (omega arith)
      (λ m. rw m)
      (λ e. let d = g.told e in let w : o + z ≤ s.rec.size = ltb-false _ _ (rw e at t.checks.within) in omega arith)

  kept-known : s.rec.missing ≡ false → Holds next N (λ x. Covers x (range o (o + z) ∷ []) ⊎ P x) (suc n)
  unfolding next
  kept-known m =
      let g = h.standing in
      let q : ranges_of next ≡ kept_ranges s.rec.progress o (o + z) (ranges_of s) = now ∙ rw m in
      let r = length-kept s.rec.progress o (o + z) (ranges_of s) ordered g.whole g.last in
      let l = h.runs in
      record {
        standing = stands;
        exact = λ x. rw q (λ k. to x ((c x).0 k), λ w. (c x).1 (from x w (dec_lt x s.rec.progress) (dec_lt x o) (dec_lt x (o + z))));
        below = λ x. ⊎_elim (⊎_elim (λ k. omega arith) absurd) (λ k. let b = h.below x k in omega arith);
        none = λ e. absurd (true≢false (sym e ∙ m));
        runs = rw q (omega arith);
      }
    where
      c : (x : ℕ) → Covers x (kept_ranges s.rec.progress o (o + z) (ranges_of s)) ↔ ((Covers x (ranges_of s) × Outside o (o + z) x) ⊎ In x (range s.rec.progress o))
      c x = kept_covers s.rec.progress o (o + z) (ranges_of s) ordered h.standing.whole h.standing.last x

      to : (x : ℕ) → (Covers x (ranges_of s) × Outside o (o + z) x) ⊎ In x (range s.rec.progress o)
          → (x < max s.rec.progress (o + z)) × ((Covers x (range o (o + z) ∷ []) ⊎ P x) → ⊥)
      to x (inl k) =
          let w = (h.exact x).0 k.0 in
          let u = w.0 in
          (omega arith, ⊎_elim (⊎_elim (λ g. ⊎_elim (λ y. omega arith) (λ y. omega arith) k.1) absurd) w.1)
      to x (inr k) =
          let u = ordered in
          (omega arith, ⊎_elim (⊎_elim (λ g. omega arith) absurd) (λ y. let b = h.below x y in omega arith))

      from : (x : ℕ) → (x < max s.rec.progress (o + z)) × ((Covers x (range o (o + z) ∷ []) ⊎ P x) → ⊥)
          → Dec (x < s.rec.progress) → Dec (x < o) → Dec (x < o + z)
          → (Covers x (ranges_of s) × Outside o (o + z) x) ⊎ In x (range s.rec.progress o)
      from x w (yes u) (yes v) d = inl ((h.exact x).1 (u, λ y. w.1 (inr y)), inl v)
      from x w (yes u) (no v) (yes d) = absurd (w.1 (inl (inl (omega arith, d))))
      from x w (yes u) (no v) (no d) = inl ((h.exact x).1 (u, λ y. w.1 (inr y)), inr (omega arith))
      from x w (no u) (yes v) d = inr (omega arith, v)
      from x w (no u) (no v) d = let k = w.0 in absurd (w.1 (inl (inl (omega arith, omega arith))))

  kept-waiting : s.rec.missing ≡ true → Holds next N (λ x. Covers x [] ⊎ P x) (suc n)
  unfolding next
  kept-waiting m =
      let q : ranges_of next ≡ waiting_ranges (max s.rec.progress (o + z)) = now ∙ rw m in
      let r = length_part 0 (max s.rec.progress (o + z)) in
      record {
        standing = stands;
        exact = λ x. rw q (
          λ k. (((part_covers x 0 (max s.rec.progress (o + z))).0 k).1, ⊎_elim absurd (h.none m x)),
          λ w. (part_covers x 0 (max s.rec.progress (o + z))).1 (omega arith, w.0),
        );
        below = λ x. ⊎_elim absurd (λ y. absurd (h.none m x y));
        none = λ e x. ⊎_elim absurd (h.none m x);
        runs = rw q (omega arith);
      }

-- an accepted EOF
module _ (s : State) (N : ℕ) (P : ℕ → Type 0) (n : ℕ) (h : Holds s N P n) (z : ℕ) (t : EofTaken s.rec s.list z) where
  end : State
  end = record { rec = ended s.rec z (length (eof_leaves s.rec s.list z)); list = stored (eof_leaves s.rec s.list z) s.rec.count s.list }

  held : ranges_of end ≡ eof_leaves s.rec s.list z
  unfolding end
  held = counted-stored (eof_leaves s.rec s.list z) s.rec.count s.list

  stands-ended : Standing end N
  unfolding end
  stands-ended =
      let g = h.standing in
      let c = g.size in
      let r = t.room in
      standing-ended s N g (eof_leaves s.rec s.list z) z (omega arith)
      (tail-whole s.rec.missing s.rec.progress z (ranges_of s) g.whole)
      (tail-last s.rec.missing s.rec.progress z (ranges_of s) g.whole g.last t.above)
      t.checks.small
      (λ m. rw m)

  ended-known : s.rec.missing ≡ false → Holds end N P (suc n)
  unfolding end
  ended-known m =
      let g = h.standing in
      let q : ranges_of end ≡ join (range s.rec.progress z) (ranges_of s) = held ∙ rw m in
      let r = tail-length s.rec.progress z (ranges_of s) in
      let l = h.runs in
      let u = t.above in
      record {
        standing = stands-ended;
        exact = λ x. rw q (λ k. to x ((c x).0 k), λ w. (c x).1 (from x w (dec_lt x s.rec.progress)));
        below = λ x k. let b = h.below x k in omega arith;
        none = λ e. absurd (true≢false (sym e ∙ m));
        runs = rw q (omega arith);
      }
    where
      c : (x : ℕ) → Covers x (join (range s.rec.progress z) (ranges_of s)) ↔ (Covers x (ranges_of s) ⊎ In x (range s.rec.progress z))
      c x = tail_covers s.rec.progress z (ranges_of s) h.standing.whole x

      to : (x : ℕ) → Covers x (ranges_of s) ⊎ In x (range s.rec.progress z) → (x < z) × (P x → ⊥)
      to x (inl k) = let w = (h.exact x).0 k in let u = t.above in let v = w.0 in (omega arith, w.1)
      to x (inr k) = (k.1, λ y. let b = h.below x y in omega (arith, k.0))

      from : (x : ℕ) → (x < z) × (P x → ⊥) → Dec (x < s.rec.progress) → Covers x (ranges_of s) ⊎ In x (range s.rec.progress z)
      from x w (yes u) = inl ((h.exact x).1 (u, w.1))
      from x w (no u) = inr (omega arith, w.0)

  ended-waiting : s.rec.missing ≡ true → Holds end N P (suc n)
  unfolding end
  ended-waiting m =
      let q : ranges_of end ≡ waiting_ranges z = held ∙ rw m in
      let r = length_part 0 z in
      record {
        standing = stands-ended;
        exact = λ x. rw q (
          λ k. (((part_covers x 0 z).0 k).1, h.none m x),
          λ w. (part_covers x 0 z).1 (omega arith, w.0),
        );
        below = λ x y. absurd (h.none m x y);
        none = λ e. h.none m;
        runs = rw q (omega arith);
      }

-- the metadata event only clears the mark
mark_cleared : (s : State) (N : ℕ) (P : ℕ → Type 0) (n : ℕ) → Holds s N P n
    → Holds (record { rec = cleared s.rec; list = s.list }) N P (suc n)
mark_cleared s N P n h =
    let g = h.standing in
    let r = h.runs in
    record {
      standing = record { size = g.size; few = g.few; room = g.room; held = g.held; whole = g.whole; last = g.last; small = g.small; waits = λ e. absurd (true≢false (sym e)); told = g.told };
      exact = h.exact;
      below = h.below;
      none = λ e. absurd (true≢false (sym e));
      runs = omega arith;
    }

-- the set that an event adds to the kept offsets
pub split-kept : (t : Bool) (e : Event) (rs : List Range) (x : ℕ) → Covers x (kept_by t e rs) ↔ (Covers x (kept_by t e []) ⊎ Covers x rs)
split-kept true (Data o z) rs x = (⊎_elim (λ k. inl (inl k)) (λ k. inr k), ⊎_elim (⊎_elim (λ k. inl k) absurd) (λ k. inr k))
split-kept true Metadata rs x = (λ k. inr k, ⊎_elim absurd (λ k. k))
split-kept true (Eof z) rs x = (λ k. inr k, ⊎_elim absurd (λ k. k))
split-kept false e rs x = (λ k. inr k, ⊎_elim absurd (λ k. k))

-- one event, accepted or refused; `known` says that the metadata came before
module _ (s : State) (N : ℕ) (P : ℕ → Type 0) (n : ℕ) (h : Holds s N P n) where
  -- the offsets kept afterwards, and the reception once the metadata is known
  abbrev pub with-kept : Bool → Event → ℕ → Type 0
  with-kept t e x = Covers x (kept_by t e []) ⊎ P x

  abbrev now-known : State
  now-known = record { rec = cleared s.rec; list = s.list }

  fits : (e : Event) (t k : Bool) (r : State) → step s e ≡ r → is_accepted s e ≡ t
      → Holds r N (with-kept (t && k) e) (cond t (suc n) n)
      → Holds (step s e) N (with-kept (is_accepted s e && k) e) (cond (is_accepted s e) (suc n) n)
  fits e t k r a b h = rw (a, b) h

  none-added : (r : State) (m l : ℕ) → m ≤ l → Holds r N P m → Holds r N (λ x. Covers x [] ⊎ P x) l
  none-added r m l u h = holds_same r N P (λ x. Covers x [] ⊎ P x) m l u (λ x. (λ k. inr k, ⊎_elim absurd (λ k. k))) h

  pub step-holds : (e : Event) (known : Bool) → s.rec.missing ≡ not known
      → Holds (step s e) N (with-kept (is_accepted s e && known) e) (cond (is_accepted s e) (suc n) n)
  unfolding next end
  step-holds e known g = go e (is_accepted s e) refl known g
    where
      go : (e : Event) (t : Bool) → is_accepted s e ≡ t → (k : Bool) → s.rec.missing ≡ not k
          → Holds (step s e) N (with-kept (is_accepted s e && k) e) (cond (is_accepted s e) (suc n) n)
      go (Data o z) true f false g =
          let t = taken s.rec s.list o z f in
          fits (Data o z) true false (next s N P n h o z t) (rw f) f (kept-waiting s N P n h o z t g)
      go (Data o z) true f true g =
          let t = taken s.rec s.list o z f in
          fits (Data o z) true true (next s N P n h o z t) (rw f) f (kept-known s N P n h o z t g)
      go Metadata true f false g = fits Metadata true false now-known (rw f) f (none-added now-known (suc n) (suc n) (omega arith) (mark_cleared s N P n h))
      go Metadata true f true g = fits Metadata true true now-known (rw f) f (none-added now-known (suc n) (suc n) (omega arith) (mark_cleared s N P n h))
      go (Eof z) true f false g =
          let t = eof_taken s.rec s.list z f in
          fits (Eof z) true false (end s N P n h z t) (rw f) f (none-added (end s N P n h z t) (suc n) (suc n) (omega arith) (ended-waiting s N P n h z t g))
      go (Eof z) true f true g =
          let t = eof_taken s.rec s.list z f in
          fits (Eof z) true true (end s N P n h z t) (rw f) f (none-added (end s N P n h z t) (suc n) (suc n) (omega arith) (ended-known s N P n h z t g))
      go (Data o z) false f k g = fits (Data o z) false k s (refused-same s (Data o z) f) f (none-added s n n (omega arith) h)
      go Metadata false f k g = fits Metadata false k s (refused-same s Metadata f) f (none-added s n n (omega arith) h)
      go (Eof z) false f k g = fits (Eof z) false k s (refused-same s (Eof z) f) f (none-added s n n (omega arith) h)

-- a list of events
pub history : (es : List Event) (s : State) (N : ℕ) (P : ℕ → Type 0) (n : ℕ) (known : Bool) → s.rec.missing ≡ not known → Holds s N P n
    → Holds (run s es) N (λ x. Covers x (kept_from known s es) ⊎ P x) (accepted_of s es + n)
history [] s N P n known g h = none-added s N P n h s n (zero + n) (omega arith) h
history (e ∷ es) s N P n known g h =
    holds_same (run (step s e) es) N
    (λ x. Covers x rest ⊎ with-kept s N P n h (is_accepted s e && known) e x)
    (λ x. Covers x (kept_from known s (e ∷ es)) ⊎ P x)
    (accepted_of (step s e) es + cond (is_accepted s e) (suc n) n) (accepted_of s (e ∷ es) + n)
    (counted-more (is_accepted s e) (accepted_of (step s e) es))
    (λ x. let w = split-kept (is_accepted s e && known) e rest x in (
      ⊎_elim (λ k. inl (w.1 (inr k))) (⊎_elim (λ k. inl (w.1 (inl k))) (λ k. inr k)),
      ⊎_elim (λ k. ⊎_elim (λ y. inr (inl y)) (λ y. inl y) (w.0 k)) (λ k. inr (inr k)),
    ))
    (history es (step s e) N (with-kept s N P n h (is_accepted s e && known) e) (cond (is_accepted s e) (suc n) n)
    (known || is_metadata_come s e) (step_mark s e known g) (step-holds s N P n h e known g))
  where
    -- what the later events keep
    rest : List Range
    rest = kept_from (known || is_metadata_come s e) (step s e) es

    counted-more : (t : Bool) (k : ℕ) → k + cond t (suc n) n ≤ cond t (suc k) k + n
    counted-more true k = omega arith
    counted-more false k = omega arith

-- a fresh reception with room for N, whatever the lent list holds
module _ (w : Width) (xs : List ℕ) (N : ℕ) (size : length xs ≡ 2 * N) (few : N ≤ most_pairs) (es : List Event) where
  abbrev start : State
  start = fresh w xs

  abbrev reached : State
  reached = run start es

  pub holds : Holds reached N (λ x. Covers x (kept start es)) (accepted_of start es)
  holds =
      holds_same reached N (λ x. Covers x (kept start es) ⊎ ⊥) (λ x. Covers x (kept start es)) (accepted_of start es + 0) (accepted_of start es) (omega arith)
      (λ x. (⊎_elim (λ k. k) absurd, λ k. inl k))
      (history es start N (λ x. ⊥) 0 false refl
      (record {
        standing = standing-fresh w xs N size few;
        exact = λ x. (absurd, λ k. let u = k.0 in absurd (omega arith));
        below = λ x. absurd;
        none = λ e x k. k;
        runs = omega arith;
      }))

  -- the list's offsets are the missing ones: progress is the largest accepted end
  pub missing_exact : (x : ℕ) → Covers x (ranges_of reached) ↔ Missing start es x
  missing_exact x = rw (← progress-largest w xs es) (holds.exact x)

  -- the list is exactly the maximal runs of the octets below progress that no kept range covers
  pub missing_runs : RunsOf (Missing start es) (ranges_of reached)
  missing_runs = runs_of (Missing start es) (ranges_of reached) holds.standing.whole missing_exact

  -- it is coalesced and ends at or below progress
  pub list-coalesced : Coalesced (ranges_of reached)
  list-coalesced = holds.standing.whole

  pub list-ends : last_end (ranges_of reached) ≤ reached.rec.progress
  list-ends = holds.standing.last

  -- after n accepted events it has at most n runs
  pub few-runs : length (ranges_of reached) ≤ accepted_of start es
  few-runs = holds.runs

  -- while waiting all below progress is missing
  pub waiting_all : reached.rec.missing ≡ true → (x : ℕ) → Covers x (ranges_of reached) ↔ (x < reached.rec.progress)
  waiting_all m x = (λ k. ((holds.exact x).0 k).0, λ k. (holds.exact x).1 (k, holds.none m x))

  -- every event passes checks 10, 8 and 12
  pub always_sound : Passed reached.list reached.rec
  always_sound = standing-passed reached N holds.standing

-- what an accepted event does to the set
module _ (w : Width) (xs : List ℕ) (N : ℕ) (size : length xs ≡ 2 * N) (few : N ≤ most_pairs) (es : List Event) (o z : ℕ) where
  abbrev before : State
  before = run (fresh w xs) es

  -- an accepted event leaves the ranges that its definition says
  pub left_by : is_accepted before (Data o z) ≡ true → ranges_of (step before (Data o z)) ≡ data_leaves before.rec before.list o z
  left_by f = rw f (counted-stored (data_leaves before.rec before.list o z) before.rec.count before.list)

  -- while the metadata is known: the range's offsets leave, those between progress and the offset become missing
  pub effect_kept : is_accepted before (Data o z) ≡ true → before.rec.missing ≡ false → (x : ℕ)
      → Covers x (ranges_of (step before (Data o z))) ↔ ((Covers x (ranges_of before) × Outside o (o + z) x) ⊎ In x (range before.rec.progress o))
  effect_kept f m x =
      let h = holds w xs N size few es in
      let t = taken before.rec before.list o z f in
      let k = t.checks.some in
      let e : ranges_of (step before (Data o z)) ≡ kept_ranges before.rec.progress o (o + z) (ranges_of before) = left_by f ∙ rw m in
      rw e (kept_covers before.rec.progress o (o + z) (ranges_of before) (omega arith) h.standing.whole h.standing.last x)
