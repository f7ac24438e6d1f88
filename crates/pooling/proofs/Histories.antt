-- From a fresh pool with good settings, after any list of events: every transfer is as a reception of its own, none is past its limit,
-- and the sum of the larger of held and floor is within the slots.
use mathlib.Core.Path.{◌≡◌, refl, sym, ap, ◌∙◌}
use mathlib.Core.Bool.{Bool, true, false, ◌&&◌, ◌||◌, not, cond}
use mathlib.Core.List.{List, [], ◌∷◌}
use mathlib.Core.Logic.{◌⊎◌, inl, inr, ⊎_elim, ◌↔◌}
use Prim.Native.Nat.{ℕ, zero, suc, ◌+◌, ◌*◌, ◌/◌, ◌≤◌, ◌<◌, max}
use native.Mathlib.Omega.{arith}
use lib.Dec.{eqb}
use lib.ListN.{length, take, length-set}
use borrow.Author.Tests.{eqb-true, eqb-false, lt-leb}
use Rattle.ranges.specs.Range.{Range, Covers}
use Rattle.ranges.specs.Store.{pairs, flat, capacity, most_pairs}
use Rattle.ranges.proofs.Flat.{length-counted, flat-counted}
use Rattle.ranges.proofs.Test.{or-none, and_none}
use Rattle.outcomes.specs.Checks.{NoneOf}
use Rattle.outcomes.proofs.FirstOf.{first-accepted}
use Rattle.reception.specs.declared.Reception.{Reception}
use Rattle.reception.specs.History.{Event, State, fresh as alone, outcome, is_accepted, step, is_metadata, kept_by, ranges_of}
use Rattle.reception.proofs.Records.{step_mark, or_assoc}
use Rattle.reception.proofs.Standing.{standing-passed}
use Rattle.reception.proofs.Histories.{Holds, holds_same, split-kept, step-holds, holds}
use Rattle.pooling.specs.declared.Pool.{Pool}
use Rattle.pooling.specs.Pool.{most_transfers, record_at, count_at, floor_at, limit_at, sum, is_bad_settings, claim_at, claimed, is_no_room}
use Rattle.pooling.specs.Share.{total, own_part, own_ranges, is_bad_transfer, is_bad_pool, pool_checks, own_list, own_state}
use Rattle.pooling.proofs.Sums.{sum_same, none_any}
use Rattle.pooling.proofs.Own.{
  Settled,
  settled,
  Shared,
  share-passed,
  total-claimed,
  below-or-free,
  grows_within,
  slot_free,
  part-even,
  room_of,
  list_length,
  room_most,
  held-room,
  taken-part,
  all-part,
  counted-list,
  counted-part,
  length_ranges,
  own_bad,
}
use Rattle.pooling.proofs.Ends.{ready, new_pool, new_list}
use Rattle.pooling.specs.History.{PoolState, PoolEvent, Fresh, is_taken, pool_step, pool_run, takes, came_of, kept_from_of, kept_of, accepted_of}
use Rattle.pooling.proofs.Stepped.{record_same, record_other, part_same, part_other, ranges_same, claimed-is, all-length}
use Rattle.pooling.proofs.Stepped as stepped
use Rattle.pooling.proofs.Rooms.{another_room}

-- how many ranges transfer k has room for
abbrev pub room_at : PoolState → ℕ → ℕ
room_at s k = cond (is_no_room s.pool (capacity s.list) k) (count_at s.pool k) (suc (count_at s.pool k))

-- transfer k as a reception of its own
abbrev pub own : PoolState → ℕ → State
own s k = own_state s.pool s.list k

-- what holds on the way: of transfer k, P k are the offsets kept so far, n k the events accepted, and known k says that its metadata came
pub record PoolHolds (s : PoolState) (P : ℕ → ℕ → Type 0) (n : ℕ → ℕ) (known : ℕ → Bool) : Type 0 where
  pub eight : length s.pool.records ≡ most_transfers
  pub settings : Settled s.pool (capacity s.list)
  pub share : Shared s.pool s.list
  pub marks : (k : ℕ) → k < s.pool.used → (record_at s.pool k).missing ≡ not (known k)
  pub each : (k : ℕ) → k < s.pool.used → Holds (own s k) (room_at s k) (P k) (n k)

-- neither 23, for a transfer in use, nor 10
module _ (s : PoolState) (P : ℕ → ℕ → Type 0) (n : ℕ → ℕ) (known : ℕ → Bool) (h : PoolHolds s P n known) where
  no-bad : is_bad_pool s.pool s.list ≡ false
  no-bad =
      rw (share-passed s.pool s.list h.share)
      (none_any (is_bad_transfer s.pool s.list) s.pool.used
      (λ k l. sym (own_bad s.pool s.list k l h.share) ∙ (standing-passed (own s k) (room_at s k) (h.each k l).standing).0))

  pub none-met : (i : ℕ) → i < s.pool.used → is_bad_settings s.pool (capacity s.list) ≡ false → NoneOf (pool_checks s.pool s.list i)
  none-met i l g = (rw (g, lt-leb s.pool.used i l), (no-bad, tt))

-- a pool that is sound has for each transfer the numbers of its ranges in front
own_held : (p : Pool) (xs : List ℕ) (k : ℕ) (l : k < p.used) (s : Shared p xs) → take (2 * count_at p k) (own_list p xs k) ≡ flat (ranges_of (own_state p xs k))
own_held p xs k l s =
    taken-part p xs k l s
    ∙ sym (all-part p xs k l s)
    ∙ sym (flat-counted (own_part p xs k) (count_at p k) (part-even p xs k l s))
    ∙ ap flat (counted-part p xs k l s ∙ sym (counted-list p xs k l s))

-- so what holds of a reception with the same record and ranges holds of it
fits_in : (p : Pool) (xs : List ℕ) (k : ℕ) (l : k < p.used) (s : Shared p xs) (t : State) (N : ℕ) (P : ℕ → Type 0) (n : ℕ) → t.rec ≡ record_at p k → ranges_of t ≡ own_ranges p xs k
    → Holds t N P n → Holds (own_state p xs k) (cond (is_no_room p (capacity xs) k) (count_at p k) (suc (count_at p k))) P n
fits_in p xs k l s t N P n e r h =
    another_room t (own_state p xs k) N (room_of p xs k l s) P n e (r ∙ sym (counted-list p xs k l s)) (list_length p xs k l s) (room_most p xs k l s)
    (held-room (is_no_room p (capacity xs) k) (count_at p k)) (own_held p xs k l s) h

-- an accepted event
module _ (s : PoolState) (P : ℕ → ℕ → Type 0) (n : ℕ → ℕ) (known : ℕ → Bool) (h : PoolHolds s P n known) (i : ℕ) (l : i < s.pool.used) (e : Event) (f : is_accepted (own s i) e ≡ true) where
  abbrev p : Pool
  p = s.pool

  abbrev xs : List ℕ
  xs = s.list

  -- the transfer's reception afterwards, and the ranges that it holds
  abbrev after : State
  after = step (own s i) e

  abbrev qs : List Range
  qs = ranges_of after

  H : Holds after (room_at s i) (λ x. Covers x (kept_by (is_accepted (own s i) e && known i) e []) ⊎ P i x) (cond (is_accepted (own s i) e) (suc (n i)) (n i))
  H = step-holds (own s i) (room_at s i) (P i) (n i) (h.each i l) e (known i) (h.marks i l)

  count : after.rec.count ≡ length qs
  count =
      let g = H.standing in
      let z : length after.list ≡ 2 * room_at s i = g.size in
      let r : after.rec.count ≤ room_at s i = g.room in
      sym (length-counted after.list after.rec.count (omega (arith, z, r)))

  within : length qs ≤ room_at s i
  within = let r : after.rec.count ≤ room_at s i = H.standing.room in omega (arith, count, r)

  bounded : (t : Bool) → is_no_room p (capacity xs) i ≡ t → length qs ≤ cond t (count_at p i) (suc (count_at p i))
  bounded t c =
      let r : room_at s i ≡ cond t (count_at p i) (suc (count_at p i)) = ap (λ (b : Bool). cond b (count_at p i) (suc (count_at p i))) c in
      omega (arith, within, r)

  inside : i < length p.records
  inside = let a = h.settings.few in omega (arith, l, a, h.eight)

  slots : 2 * total p ≤ length xs
  slots =
      let t : total p ≤ claimed p = total-claimed p in
      let g = h.share in
      omega (arith, t, g.claims, g.size)

  room : 2 * (total p + length qs) ≤ length xs + 2 * count_at p i
  room = go (is_no_room p (capacity xs) i) refl
    where
      go : (t : Bool) → is_no_room p (capacity xs) i ≡ t → 2 * (total p + length qs) ≤ length xs + 2 * count_at p i
      go true c = let w : length qs ≤ count_at p i = bounded true c in omega (arith, w, slots)
      go false c =
          let w : length qs ≤ suc (count_at p i) = bounded false c in
          let k : total p + 1 ≤ capacity xs = slot_free p (capacity xs) i l c h.share.claims in
          omega (arith, w, k, h.share.size)

  abbrev next : PoolState
  next = record { pool = new_pool p xs i e; list = new_list p xs i e }

  list-size : length next.list ≡ length xs
  list-size = stepped.list_length p xs i after.rec qs count l inside slots room

  pub same-slots : capacity next.list ≡ capacity xs
  same-slots = ap (λ (k : ℕ). k / 2) list-size

  limits : (k : ℕ) → k < p.used → count_at next.pool k ≤ limit_at p k
  limits k m = go (eqb k i) refl
    where
      own-limit : (t : Bool) → is_no_room p (capacity xs) i ≡ t → length qs ≤ limit_at p i
      own-limit true c = let w : length qs ≤ count_at p i = bounded true c in omega (arith, w, h.share.limits i l)
      own-limit false c = let w : length qs ≤ suc (count_at p i) = bounded false c in omega (arith, w, grows_within p (capacity xs) i c)

      go : (t : Bool) → eqb k i ≡ t → count_at next.pool k ≤ limit_at p k
      go true c =
          let a : k ≡ i = eqb-true _ _ c in
          let b : count_at next.pool i ≡ length qs = ap (λ (r : Reception). r.count) (record_same p xs i after.rec qs count l inside slots room) ∙ count in
          rw a (omega (arith, b, own-limit (is_no_room p (capacity xs) i) refl))
      go false c =
          let b : count_at next.pool k ≡ count_at p k = ap (λ (r : Reception). r.count) (record_other p xs i after.rec qs count l inside slots room k (eqb-false _ _ c)) in
          omega (arith, b, h.share.limits k m)

  claims : claimed next.pool ≤ capacity xs
  claims = go (is_no_room p (capacity xs) i) refl
    where
      sums : claimed next.pool + claim_at p i ≡ claimed p + max (length qs) (floor_at p i)
      sums = claimed-is p xs i after.rec qs count l inside slots room

      free : length qs ≤ suc (count_at p i) → (count_at p i < floor_at p i) ⊎ (claimed p < capacity xs) → claimed next.pool ≤ capacity xs
      free w (inl b) = omega (arith, w, b, sums, h.share.claims)
      free w (inr b) = omega (arith, w, b, sums)

      go : (t : Bool) → is_no_room p (capacity xs) i ≡ t → claimed next.pool ≤ capacity xs
      go true c = let w : length qs ≤ count_at p i = bounded true c in omega (arith, w, sums, h.share.claims)
      go false c = let w : length qs ≤ suc (count_at p i) = bounded false c in free w (below-or-free p (capacity xs) i c h.share.claims)

  next-shared : Shared next.pool next.list
  next-shared =
      let g = h.share in
      record {
        size = list-size ∙ g.size ∙ ap (λ (k : ℕ). 2 * k) (sym same-slots);
        most = rw same-slots g.most;
        limits = limits;
        claims = rw same-slots claims;
      }

  next-settled : Settled next.pool (capacity next.list)
  next-settled = let g = h.settings in record { few = g.few; floors = g.floors; within = rw same-slots g.within }

  -- the transfer itself, and every other
  pub next-own : Holds (own next i) (room_at next i) (λ x. Covers x (kept_by (is_accepted (own s i) e && known i) e []) ⊎ P i x) (cond (is_accepted (own s i) e) (suc (n i)) (n i))
  next-own =
      fits_in next.pool next.list i l next-shared after (room_at s i) (λ x. Covers x (kept_by (is_accepted (own s i) e && known i) e []) ⊎ P i x) (cond (is_accepted (own s i) e) (suc (n i)) (n i))
      (sym (record_same p xs i after.rec qs count l inside slots room)) (sym (ranges_same p xs i after.rec qs count l inside slots room)) H

  pub next_other : (k : ℕ) → k < p.used → (k ≡ i → ⊥) → Holds (own next k) (room_at next k) (P k) (n k)
  next_other k m c =
      fits_in next.pool next.list k m next-shared (own s k) (room_at s k) (P k) (n k)
      (sym (record_other p xs i after.rec qs count l inside slots room k c))
      (counted-list p xs k m h.share ∙ ap pairs (sym (part_other p xs i after.rec qs count l inside slots room k m c)))
      (h.each k m)

  -- the record and the ranges of the transfer, and of every other
  pub record_own : record_at next.pool i ≡ after.rec
  record_own = record_same p xs i after.rec qs count l inside slots room

  pub record_others : (k : ℕ) → (k ≡ i → ⊥) → record_at next.pool k ≡ record_at p k
  record_others k c = record_other p xs i after.rec qs count l inside slots room k c

  pub ranges_own : own_ranges next.pool next.list i ≡ qs
  ranges_own = ranges_same p xs i after.rec qs count l inside slots room

  pub part-others : (k : ℕ) → k < p.used → (k ≡ i → ⊥) → own_part next.pool next.list k ≡ own_part p xs k
  part-others k m c = part_other p xs i after.rec qs count l inside slots room k m c

  next-mark : (k : ℕ) → k < p.used → (record_at next.pool k).missing ≡ not (known k || ((eqb i k && true) && is_metadata e))
  next-mark k m = go (eqb i k) refl
    where
      go : (t : Bool) → eqb i k ≡ t → (record_at next.pool k).missing ≡ not (known k || ((t && true) && is_metadata e))
      go true c =
          let a : i ≡ k = eqb-true _ _ c in
          rw (← a)
          (ap (λ (r : Reception). r.missing) (record_same p xs i after.rec qs count l inside slots room)
          ∙ step_mark (own s i) e (known i) (h.marks i l)
          ∙ ap (λ (b : Bool). not (known i || (b && is_metadata e))) f)
      go false c =
          ap (λ (r : Reception). r.missing) (record_other p xs i after.rec qs count l inside slots room k (λ q. eqb-false _ _ c (sym q)))
          ∙ h.marks k m
          ∙ ap not (sym (or-none (known k)))

  next-each : (k : ℕ) → k < p.used
      → Holds (own next k) (room_at next k) (λ x. Covers x (kept_by ((eqb i k && true) && known k) e []) ⊎ P k x) (cond (eqb i k && true) (suc (n k)) (n k))
  next-each k m = go (eqb i k) refl
    where
      go : (t : Bool) → eqb i k ≡ t → Holds (own next k) (room_at next k) (λ x. Covers x (kept_by ((t && true) && known k) e []) ⊎ P k x) (cond (t && true) (suc (n k)) (n k))
      go true c = let a : i ≡ k = eqb-true _ _ c in rw (← a) (rw f at next-own)
      go false c =
          holds_same (own next k) (room_at next k) (P k) (λ x. Covers x [] ⊎ P k x) (n k) (n k) (omega arith) (λ x. (λ y. inr y, ⊎_elim absurd (λ y. y)))
          (next_other k m (λ q. eqb-false _ _ c (sym q)))

  pub taken-holds : PoolHolds next (λ k x. Covers x (kept_by ((eqb i k && true) && known k) e []) ⊎ P k x) (λ k. cond (eqb i k && true) (suc (n k)) (n k))
      (λ k. known k || ((eqb i k && true) && is_metadata e))
  taken-holds =
      record {
        eight = length-set p.records i after.rec ∙ h.eight;
        settings = next-settled;
        share = next-shared;
        marks = next-mark;
        each = next-each;
      }

-- what holds, said otherwise
pool-same : (s : PoolState) (P Q : ℕ → ℕ → Type 0) (n m : ℕ → ℕ) (known told : ℕ → Bool) → ((k : ℕ) → n k ≤ m k) → ((k x : ℕ) → P k x ↔ Q k x) → ((k : ℕ) → known k ≡ told k)
    → PoolHolds s P n known → PoolHolds s Q m told
pool-same s P Q n m known told a f g h =
    record {
      eight = h.eight;
      settings = h.settings;
      share = h.share;
      marks = λ k l. h.marks k l ∙ ap not (g k);
      each = λ k l. holds_same (own s k) (room_at s k) (P k) (Q k) (n k) (m k) (a k) (f k) (h.each k l);
    }

-- a refused event changes nothing
pub refused-same : (s : PoolState) (e : PoolEvent) → is_taken s e ≡ false → pool_step s e ≡ s
refused-same s e f = rw f

-- the number of slots never changes
pub slots-step : (s : PoolState) (P : ℕ → ℕ → Type 0) (n : ℕ → ℕ) (known : ℕ → Bool) → PoolHolds s P n known → (e : PoolEvent) → capacity (pool_step s e).list ≡ capacity s.list
slots-step s P n known h e = go (is_taken s e) refl
  where
    go : (t : Bool) → is_taken s e ≡ t → capacity (pool_step s e).list ≡ capacity s.list
    go true f =
        let w = first-accepted (pool_checks s.pool s.list e.0) (outcome (own s e.0) e.1) f in
        rw f (same-slots s P n known h e.0 (ready s.pool s.list e.0 w.0).known e.1 w.1)
    go false f = rw f

-- one event, accepted or refused
pub pool-step : (s : PoolState) (P : ℕ → ℕ → Type 0) (n : ℕ → ℕ) (known : ℕ → Bool) → PoolHolds s P n known → (e : PoolEvent)
    → PoolHolds (pool_step s e) (λ k x. Covers x (kept_by (takes k s e && known k) e.1 []) ⊎ P k x) (λ k. cond (takes k s e) (suc (n k)) (n k))
    (λ k. known k || (takes k s e && is_metadata e.1))
pool-step s P n known h e = go (is_taken s e) refl
  where
    go : (t : Bool) → is_taken s e ≡ t
        → PoolHolds (pool_step s e) (λ k x. Covers x (kept_by (takes k s e && known k) e.1 []) ⊎ P k x) (λ k. cond (takes k s e) (suc (n k)) (n k))
        (λ k. known k || (takes k s e && is_metadata e.1))
    go true f =
        let w = first-accepted (pool_checks s.pool s.list e.0) (outcome (own s e.0) e.1) f in
        rw f (taken-holds s P n known h e.0 (ready s.pool s.list e.0 w.0).known e.1 w.1)
    go false f =
        rw f
        (pool-same s P (λ k x. Covers x (kept_by ((eqb e.0 k && false) && known k) e.1 []) ⊎ P k x) n (λ k. cond (eqb e.0 k && false) (suc (n k)) (n k)) known
        (λ k. known k || ((eqb e.0 k && false) && is_metadata e.1))
        (λ k. rw (and_none (eqb e.0 k)) (omega arith))
        (λ k x. rw (and_none (eqb e.0 k)) (λ y. inr y, ⊎_elim absurd (λ y. y)))
        (λ k. rw (and_none (eqb e.0 k)) (sym (or-none (known k)))) h)

-- a list of events
pub pool-history : (es : List PoolEvent) (s : PoolState) (P : ℕ → ℕ → Type 0) (n : ℕ → ℕ) (known : ℕ → Bool) → PoolHolds s P n known
    → PoolHolds (pool_run s es) (λ k x. Covers x (kept_from_of k (known k) s es) ⊎ P k x) (λ k. accepted_of k s es + n k) (λ k. known k || came_of k s es)
pool-history [] s P n known h =
    pool-same s P (λ k x. Covers x [] ⊎ P k x) n (λ k. zero + n k) known (λ k. known k || false)
    (λ k. omega arith) (λ k x. (λ y. inr y, ⊎_elim absurd (λ y. y))) (λ k. sym (or-none (known k))) h
pool-history (e ∷ es) s P n known h =
    pool-same (pool_run (pool_step s e) es)
    (λ k x. Covers x (rest k) ⊎ (Covers x (kept_by (takes k s e && known k) e.1 []) ⊎ P k x)) (λ k x. Covers x (kept_from_of k (known k) s (e ∷ es)) ⊎ P k x)
    (λ k. accepted_of k (pool_step s e) es + cond (takes k s e) (suc (n k)) (n k)) (λ k. accepted_of k s (e ∷ es) + n k)
    (λ k. (known k || (takes k s e && is_metadata e.1)) || came_of k (pool_step s e) es) (λ k. known k || came_of k s (e ∷ es))
    (λ k. more (takes k s e) (n k) (accepted_of k (pool_step s e) es))
    (λ k x. let w = split-kept (takes k s e && known k) e.1 (rest k) x in (
      ⊎_elim (λ y. inl (w.1 (inr y))) (⊎_elim (λ y. inl (w.1 (inl y))) (λ y. inr y)),
      ⊎_elim (λ y. ⊎_elim (λ z. inr (inl z)) (λ z. inl z) (w.0 y)) (λ y. inr (inr y)),
    ))
    (λ k. or_assoc (known k) (takes k s e && is_metadata e.1) (came_of k (pool_step s e) es))
    (pool-history es (pool_step s e) (λ k x. Covers x (kept_by (takes k s e && known k) e.1 []) ⊎ P k x) (λ k. cond (takes k s e) (suc (n k)) (n k))
    (λ k. known k || (takes k s e && is_metadata e.1)) (pool-step s P n known h e))
  where
    -- what the later events keep
    rest : ℕ → List Range
    rest k = kept_from_of k (known k || (takes k s e && is_metadata e.1)) (pool_step s e) es

    more : (t : Bool) (n k : ℕ) → k + cond t (suc n) n ≤ cond t (suc k) k + n
    more true n k = omega arith
    more false n k = omega arith

-- a fresh pool
module _ (p : Pool) (xs : List ℕ) (size : length xs ≡ 2 * capacity xs) (few : capacity xs ≤ most_pairs) (good : is_bad_settings p (capacity xs) ≡ false) (fresh : Fresh p) where
  abbrev pub start : PoolState
  start = record { pool = p; list = xs }

  none-held : (k : ℕ) → k < p.used → count_at p k ≡ 0
  none-held k l = ap (λ (r : Reception). r.count) (fresh.each k l)

  start-shared : Shared p xs
  start-shared =
      record {
        size = size;
        most = few;
        limits = λ k l. omega (arith, none-held k l);
        claims =
            let e : claimed p ≡ sum (floor_at p) p.used = sum_same (claim_at p) (floor_at p) p.used (λ k l. omega (arith, none-held k l)) in
            omega (arith, e, (settled p (capacity xs) good).within);
      }

  empty : (rs : List Range) → length rs ≡ 0 → [] ≡ rs
  empty [] e = refl
  empty (r ∷ rs) e = absurd (omega (arith, e))

  pub start-holds : PoolHolds start (λ k x. ⊥) (λ k. 0) (λ k. false)
  start-holds =
      record {
        eight = fresh.eight;
        settings = settled p (capacity xs) good;
        share = start-shared;
        marks = λ k l. ap (λ (r : Reception). r.missing) (fresh.each k l);
        each = λ k l.
            fits_in p xs k l start-shared (alone (record_at p k).width []) 0 (λ x. ⊥) 0 (sym (fresh.each k l))
            (empty (own_ranges p xs k) (length_ranges p xs k l start-shared ∙ none-held k l))
            (holds (record_at p k).width [] 0 refl (omega arith) []);
      }

  -- what holds after any events
  pub pool-holds : (es : List PoolEvent) → PoolHolds (pool_run start es) (λ k x. Covers x (kept_of k start es)) (λ k. accepted_of k start es) (λ k. came_of k start es)
  pool-holds es =
      pool-same (pool_run start es) (λ k x. Covers x (kept_of k start es) ⊎ ⊥) (λ k x. Covers x (kept_of k start es)) (λ k. accepted_of k start es + 0) (λ k. accepted_of k start es)
      (λ k. false || came_of k start es) (λ k. came_of k start es)
      (λ k. omega arith) (λ k x. (⊎_elim (λ y. y) absurd, λ y. inl y)) (λ k. refl)
      (pool-history es start (λ k x. ⊥) (λ k. 0) (λ k. false) start-holds)
