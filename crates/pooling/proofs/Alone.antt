-- A pool of one transfer with floor 0 and limit S answers as a reception of its own with room for S, after any events: the same answers, the
-- same record, the same ranges.
use mathlib.Core.Path.{◌≡◌, refl, sym, ap, ap₂, ◌∙◌}
use mathlib.Core.Bool.{Bool, true, false, ◌||◌, not, cond, true≢false}
use mathlib.Core.List.{List, [], ◌∷◌}
use mathlib.Core.Logic.{inl, inr}
use Prim.Native.Nat.{ℕ, suc, ◌+◌, ◌*◌, ◌≤◌, ◌<◌, max}
use native.Mathlib.Omega.{arith}
use lib.Dec.{eqb, ltb}
use lib.ListN.{length, get_or}
use borrow.Author.Tests.{le-ltb, eqb-false}
use Rattle.ranges.specs.Range.{Range}
use Rattle.ranges.specs.Store.{capacity, counted, most_pairs}
use Rattle.ranges.proofs.Flat.{length-counted}
use Rattle.ranges.proofs.Stored.{counted-stored}
use Rattle.outcomes.specs.Outcome.{Outcome, accepted, lent}
use Rattle.outcomes.specs.Refusal.{refusing}
use Rattle.outcomes.specs.Checks.{NoneOf, first_of}
use Rattle.outcomes.specs.declared.Refusal.TheVariants as refusal
use Rattle.reception.specs.declared.Reception.{Reception}
use Rattle.reception.specs.Record.{moved, known as cleared, ended}
use Rattle.reception.specs.Data.{data_leaves, is_full, segment_checks, room_outcome, data_outcome}
use Rattle.reception.specs.Metadata.{mark_checks, metadata_outcome}
use Rattle.reception.specs.Eof.{eof_leaves, size_checks, tail_outcome, eof_outcome}
use Rattle.reception.specs.History.{Event, Data, Metadata, Eof, State, fresh as alone, outcome, step, run, is_metadata_come, ranges_of}
use Rattle.reception.proofs.Records.{step_mark, refused-same as stays}
use Rattle.reception.proofs.Sound.{behind_record}
use Rattle.reception.proofs.Standing.{Standing, standing-passed}
use Rattle.reception.proofs.Histories.{Holds, step-holds, holds}
use Rattle.pooling.specs.declared.Pool.{Pool}
use Rattle.pooling.specs.Pool.{record_at, count_at, floor_at, limit_at, sum, claim_at, claimed, is_bad_settings, NoRoom, is_no_room}
use Rattle.pooling.specs.Share.{pool_checks, own_ranges, own_list}
use Rattle.pooling.proofs.Own.{no_room, counted-list}
use Rattle.pooling.proofs.Ends.{own-outcome}
use Rattle.pooling.proofs.Grows.{data_grows, eof_grows}
use Rattle.pooling.specs.History.{PoolState, PoolEvent, Fresh, answered, is_taken, pool_step, pool_run, of_first}
use Rattle.pooling.proofs.Histories.{own, room_at, PoolHolds, slots-step, none-met, record_own, ranges_own, pool-step, start-holds}
use Rattle.pooling.proofs.Missing.{own-accepts, used_step, floors-step, limits-step}
use Rattle.pooling.proofs.Answered.{settings-passed}

-- the ranges after an event
data_after : (rec : Reception) (xs : List ℕ) (o z : ℕ)
    → ranges_of (step (record { rec = rec; list = xs }) (Data o z)) ≡ lent (data_outcome rec xs o z) (data_leaves rec xs o z) (counted xs rec.count)
data_after rec xs o z = go (eqb (data_outcome rec xs o z).number 0) refl
  where
    go : (t : Bool) → eqb (data_outcome rec xs o z).number 0 ≡ t
        → ranges_of (step (record { rec = rec; list = xs }) (Data o z)) ≡ lent (data_outcome rec xs o z) (data_leaves rec xs o z) (counted xs rec.count)
    go true f = rw f (counted-stored (data_leaves rec xs o z) rec.count xs)
    go false f = rw f

eof_after : (rec : Reception) (xs : List ℕ) (z : ℕ)
    → ranges_of (step (record { rec = rec; list = xs }) (Eof z)) ≡ lent (eof_outcome rec xs z) (eof_leaves rec xs z) (counted xs rec.count)
eof_after rec xs z = go (eqb (eof_outcome rec xs z).number 0) refl
  where
    go : (t : Bool) → eqb (eof_outcome rec xs z).number 0 ≡ t
        → ranges_of (step (record { rec = rec; list = xs }) (Eof z)) ≡ lent (eof_outcome rec xs z) (eof_leaves rec xs z) (counted xs rec.count)
    go true f = rw f (counted-stored (eof_leaves rec xs z) rec.count xs)
    go false f = rw f

pub metadata-after : (rec : Reception) (xs : List ℕ) → ranges_of (step (record { rec = rec; list = xs }) Metadata) ≡ counted xs rec.count
metadata-after rec xs = go (eqb (metadata_outcome rec xs).number 0) refl
  where
    go : (t : Bool) → eqb (metadata_outcome rec xs).number 0 ≡ t → ranges_of (step (record { rec = rec; list = xs }) Metadata) ≡ counted xs rec.count
    go true f = rw f
    go false f = rw f

-- one record over two lists with the same ranges, which have room for the same up to one more range
module _ (rec : Reception) (xs ys : List ℕ) (N M : ℕ) (g : Standing (record { rec = rec; list = xs }) N) (h : Standing (record { rec = rec; list = ys }) M)
    (r : counted xs rec.count ≡ counted ys rec.count) (agree : (k : ℕ) → k ≤ suc rec.count → ltb N k ≡ ltb M k) where
  capacity-left : capacity xs ≡ N
  capacity-left = let e = g.size in omega (arith, e)

  capacity-right : capacity ys ≡ M
  capacity-right = let e = h.size in omega (arith, e)

  held : length (counted xs rec.count) ≡ rec.count
  held = length-counted xs rec.count (let a = g.size in let b = g.room in omega (arith, a, b))

  same_full : (rs : List Range) → length rs ≤ suc rec.count → is_full (capacity xs) rs ≡ is_full (capacity ys) rs
  same_full rs k = ap (λ (n : ℕ). ltb n (length rs)) capacity-left ∙ agree (length rs) k ∙ ap (λ (n : ℕ). ltb n (length rs)) (sym capacity-right)

  -- what the events leave
  data-leaves : (o z : ℕ) → data_leaves rec xs o z ≡ data_leaves rec ys o z
  data-leaves o z = rw r

  eof-leaves : (z : ℕ) → eof_leaves rec xs z ≡ eof_leaves rec ys z
  eof-leaves z = rw r

  room-same : (o z : ℕ) → (z ≡ 0 → ⊥) → room_outcome rec xs o z ≡ room_outcome rec ys o z
  room-same o z n =
      let k = data_grows rec.missing rec.progress o (o + z) (counted xs rec.count) (omega (arith, n)) g.whole g.last in
      let e : is_full (capacity xs) (data_leaves rec xs o z) ≡ is_full (capacity ys) (data_leaves rec ys o z) =
      same_full (data_leaves rec xs o z) (omega (arith, k, held)) ∙ ap (is_full (capacity ys)) (data-leaves o z) in
      ap (λ (b : Bool). cond b (refusing refusal.StoreFull) (cond rec.missing (accepted (0 ∷ [])) (accepted (1 ∷ [])))) e

  tail-same : (z : ℕ) → tail_outcome rec xs z ≡ tail_outcome rec ys z
  tail-same z =
      let k = eof_grows rec.missing rec.progress z (counted xs rec.count) in
      let e : is_full (capacity xs) (eof_leaves rec xs z) ≡ is_full (capacity ys) (eof_leaves rec ys z) =
      same_full (eof_leaves rec xs z) (omega (arith, k, held)) ∙ ap (is_full (capacity ys)) (eof-leaves z) in
      ap (λ (b : Bool). cond b (refusing refusal.StoreFull) (accepted [])) e

  abbrev left : State
  left = record { rec = rec; list = xs }

  abbrev right : State
  right = record { rec = rec; list = ys }

  pub same_outcome : (e : Event) → outcome left e ≡ outcome right e
  same_outcome (Data o z) =
      sym (behind_record xs rec (standing-passed left N g) (segment_checks rec o z) (room_outcome rec xs o z))
      ∙ go (eqb z 0) refl
      ∙ behind_record ys rec (standing-passed right M h) (segment_checks rec o z) (room_outcome rec ys o z)
    where
      go : (t : Bool) → eqb z 0 ≡ t → first_of (segment_checks rec o z) (room_outcome rec xs o z) ≡ first_of (segment_checks rec o z) (room_outcome rec ys o z)
      go true e = rw e
      go false e = ap (first_of (segment_checks rec o z)) (room-same o z (eqb-false _ _ e))
  same_outcome Metadata =
      sym (behind_record xs rec (standing-passed left N g) (mark_checks rec) (accepted [])) ∙ behind_record ys rec (standing-passed right M h) (mark_checks rec) (accepted [])
  same_outcome (Eof z) =
      sym (behind_record xs rec (standing-passed left N g) (size_checks rec z) (tail_outcome rec xs z))
      ∙ ap (first_of (size_checks rec z)) (tail-same z)
      ∙ behind_record ys rec (standing-passed right M h) (size_checks rec z) (tail_outcome rec ys z)

  pub same_record : (e : Event) → (step left e).rec ≡ (step right e).rec
  same_record (Data o z) = ap₂ (λ (u : Outcome) (rs : List Range). lent u (moved rec (max rec.progress (o + z)) (length rs)) rec) (same_outcome (Data o z)) (data-leaves o z)
  same_record Metadata = ap (λ (u : Outcome). lent u (cleared rec) rec) (same_outcome Metadata)
  same_record (Eof z) = ap₂ (λ (u : Outcome) (rs : List Range). lent u (ended rec z (length rs)) rec) (same_outcome (Eof z)) (eof-leaves z)

  pub same_ranges : (e : Event) → ranges_of (step left e) ≡ ranges_of (step right e)
  same_ranges (Data o z) =
      data_after rec xs o z
      ∙ ap₂ (λ (u : Outcome) (rs : List Range). lent u rs (counted xs rec.count)) (same_outcome (Data o z)) (data-leaves o z)
      ∙ ap (lent (data_outcome rec ys o z) (data_leaves rec ys o z)) r
      ∙ sym (data_after rec ys o z)
  same_ranges Metadata = metadata-after rec xs ∙ r ∙ sym (metadata-after rec ys)
  same_ranges (Eof z) =
      eof_after rec xs z
      ∙ ap₂ (λ (u : Outcome) (rs : List Range). lent u rs (counted xs rec.count)) (same_outcome (Eof z)) (eof-leaves z)
      ∙ ap (lent (eof_outcome rec ys z) (eof_leaves rec ys z)) r
      ∙ sym (eof_after rec ys z)

-- a pool of one transfer with floor 0 and limit S, over S slots
pub record One (s : PoolState) (S : ℕ) : Type 0 where
  pub used : s.pool.used ≡ 1
  pub floor : floor_at s.pool 0 ≡ 0
  pub limit : limit_at s.pool 0 ≡ S
  pub slots : capacity s.list ≡ S

one-step : (s : PoolState) (S : ℕ) (P : ℕ → ℕ → Type 0) (n : ℕ → ℕ) (known : ℕ → Bool) → PoolHolds s P n known → One s S → (e : PoolEvent) → One (pool_step s e) S
one-step s S P n known h o e =
    record {
      used = used_step s e ∙ o.used;
      floor = ap (λ (ls : List ℕ). get_or ls 0 0) (floors-step s e) ∙ o.floor;
      limit = ap (λ (ls : List ℕ). get_or ls 0 0) (limits-step s e) ∙ o.limit;
      slots = slots-step s P n known h e ∙ o.slots;
    }

module _ (s : PoolState) (S : ℕ) (P : ℕ → ℕ → Type 0) (n : ℕ → ℕ) (known : ℕ → Bool) (h : PoolHolds s P n known) (o : One s S) where
  first : 0 < s.pool.used
  first = omega (arith, o.used)

  sum_is : claimed s.pool ≡ count_at s.pool 0
  sum_is = ap (sum (claim_at s.pool)) o.used ∙ omega (arith, o.floor)

  most : count_at s.pool 0 ≤ S
  most = omega (arith, sum_is, h.share.claims, o.slots)

  -- its list has room for one more exactly if it holds fewer than S
  agrees : (k : ℕ) → k ≤ suc (count_at s.pool 0) → ltb (room_at s 0) k ≡ ltb S k
  agrees k m = go (is_no_room s.pool (capacity s.list) 0) refl
    where
      all : NoRoom s.pool (capacity s.list) 0 → count_at s.pool 0 ≡ S
      all (inl w) = omega (arith, w, o.limit, most)
      all (inr w) = omega (arith, w.1, sum_is, o.slots)

      some : is_no_room s.pool (capacity s.list) 0 ≡ false → count_at s.pool 0 ≡ S → ⊥
      some f e = true≢false (sym ((no_room s.pool (capacity s.list) 0).1 (inr (omega (arith, o.floor), omega (arith, sum_is, e, o.slots)))) ∙ f)

      go : (t : Bool) → is_no_room s.pool (capacity s.list) 0 ≡ t → ltb (room_at s 0) k ≡ ltb S k
      go true f = rw (f, all ((no_room s.pool (capacity s.list) 0).0 f))
      go false f =
          let d = some f in
          rw f (le-ltb (suc (count_at s.pool 0)) k m ∙ sym (le-ltb S k (omega (arith, m, most, d))))

  none : NoneOf (pool_checks s.pool s.list 0)
  none = none-met s P n known h 0 first (settings-passed s.pool (capacity s.list) h.settings)

  -- a reception with the same record and ranges and room for S
  module _ (t : State) (Q : ℕ → Type 0) (c : ℕ) (ht : Holds t S Q c) (e : record_at s.pool 0 ≡ t.rec) (r : own_ranges s.pool s.list 0 ≡ ranges_of t) where
    abbrev twin : State
    twin = record { rec = record_at s.pool 0; list = t.list }

    twin-is : twin ≡ t
    twin-is = λ j. record { rec = e j; list = t.list }

    twin-stands : Standing twin S
    twin-stands = rw twin-is ht.standing

    twin-ranges : ranges_of (own s 0) ≡ ranges_of twin
    twin-ranges = counted-list s.pool s.list 0 first h.share ∙ r ∙ ap ranges_of (sym twin-is)

    pub alike : (ev : Event) → answered s (0, ev) ≡ outcome t ev
    alike ev =
        own-outcome s.pool s.list 0 ev none
        ∙ same_outcome (record_at s.pool 0) (own_list s.pool s.list 0) t.list (room_at s 0) S (h.each 0 first).standing twin-stands twin-ranges agrees ev
        ∙ ap (λ (u : State). outcome u ev) twin-is

    record-alike : (ev : Event) → (step (own s 0) ev).rec ≡ (step t ev).rec
    record-alike ev =
        same_record (record_at s.pool 0) (own_list s.pool s.list 0) t.list (room_at s 0) S (h.each 0 first).standing twin-stands twin-ranges agrees ev
        ∙ ap (λ (u : State). (step u ev).rec) twin-is

    ranges-alike : (ev : Event) → ranges_of (step (own s 0) ev) ≡ ranges_of (step t ev)
    ranges-alike ev =
        same_ranges (record_at s.pool 0) (own_list s.pool s.list 0) t.list (room_at s 0) S (h.each 0 first).standing twin-stands twin-ranges agrees ev
        ∙ ap (λ (u : State). ranges_of (step u ev)) twin-is

    -- and so after an event
    next-record : (ev : Event) → record_at (pool_step s (0, ev)).pool 0 ≡ (step t ev).rec
    next-record ev = go (is_taken s (0, ev)) refl
      where
        go : (b : Bool) → is_taken s (0, ev) ≡ b → record_at (pool_step s (0, ev)).pool 0 ≡ (step t ev).rec
        go true f = rw f (record_own s P n known h 0 first ev (own-accepts s (0, ev) f).1 ∙ record-alike ev)
        go false f = rw f e ∙ sym (ap (λ (u : State). u.rec) (stays t ev (sym (ap (λ (u : Outcome). eqb u.number 0) (alike ev)) ∙ f)))

    next-ranges : (ev : Event) → own_ranges (pool_step s (0, ev)).pool (pool_step s (0, ev)).list 0 ≡ ranges_of (step t ev)
    next-ranges ev = go (is_taken s (0, ev)) refl
      where
        go : (b : Bool) → is_taken s (0, ev) ≡ b → own_ranges (pool_step s (0, ev)).pool (pool_step s (0, ev)).list 0 ≡ ranges_of (step t ev)
        go true f = rw f (ranges_own s P n known h 0 first ev (own-accepts s (0, ev) f).1 ∙ ranges-alike ev)
        go false f = rw f r ∙ sym (ap ranges_of (stays t ev (sym (ap (λ (u : Outcome). eqb u.number 0) (alike ev)) ∙ f)))

-- after any events: the same record, the same ranges, and the same answer to the next
abbrev Twins : PoolState → State → Type 0
Twins s t = (record_at s.pool 0 ≡ t.rec) × ((own_ranges s.pool s.list 0 ≡ ranges_of t) × ((e : Event) → answered s (0, e) ≡ outcome t e))

twins : (es : List Event) (s : PoolState) (S : ℕ) (P : ℕ → ℕ → Type 0) (n : ℕ → ℕ) (known : ℕ → Bool) → PoolHolds s P n known → One s S
    → (t : State) (Q : ℕ → Type 0) (c : ℕ) (k : Bool) → Holds t S Q c → t.rec.missing ≡ not k → record_at s.pool 0 ≡ t.rec → own_ranges s.pool s.list 0 ≡ ranges_of t
    → Twins (pool_run s (of_first es)) (run t es)
twins [] s S P n known h o t Q c k ht m e r = (e, (r, alike s S P n known h o t Q c ht e r))
twins (ev ∷ es) s S P n known h o t Q c k ht m e r =
    twins es (pool_step s (0, ev)) S _ _ _ (pool-step s P n known h (0, ev)) (one-step s S P n known h o (0, ev)) (step t ev) _ _ (k || is_metadata_come t ev)
    (step-holds t S Q c ht ev k m) (step_mark t ev k m) (next-record s S P n known h o t Q c ht e r ev) (next-ranges s S P n known h o t Q c ht e r ev)

-- from a fresh pool and a fresh reception of the same width
pub one_reception : (p : Pool) (xs ys : List ℕ) (size : length xs ≡ 2 * capacity xs) (few : capacity xs ≤ most_pairs) (good : is_bad_settings p (capacity xs) ≡ false) (new : Fresh p)
    → One (record { pool = p; list = xs }) (capacity xs) → length ys ≡ 2 * capacity xs → (es : List Event)
    → Twins (pool_run (record { pool = p; list = xs }) (of_first es)) (run (alone (record_at p 0).width ys) es)
one_reception p xs ys size few good new o z es =
    let h = start-holds p xs size few good new in
    let l : 0 < p.used = omega (arith, o.used) in
    let w = (record_at p 0).width in
    twins es (record { pool = p; list = xs }) (capacity xs) _ _ _ h o (alone w ys) _ _ false (holds w ys (capacity xs) z few []) refl (new.each 0 l)
    (sym (counted-list p xs 0 l h.share) ∙ none-held (record_at p 0).count (ap (λ (q : Reception). q.count) (new.each 0 l)))
  where
    none-held : (m : ℕ) → m ≡ 0 → counted (own_list p xs 0) m ≡ []
    none-held m e = ap (counted (own_list p xs 0)) e
