-- What an otherwise valid event of a transfer is answered after any list of events of the pool, by the room rule on the runs of the offsets
-- that would be missing. Otherwise valid: none of 2, 9, 4 and 22, or of 4 and 22 for an EOF, is met by the transfer's record.
use mathlib.Core.Path.{◌≡◌, refl, ap, ◌∙◌}
use mathlib.Core.Bool.{Bool, true, false, not, cond}
use mathlib.Core.List.{List, [], ◌∷◌}
use mathlib.Core.Logic.{inl, inr, ⊎_elim, ◌↔◌}
use Prim.Native.Nat.{ℕ, ◌+◌, ◌*◌, ◌≤◌, ◌<◌, max}
use native.Mathlib.Omega.{arith}
use lib.ListN.{length}
use borrow.Author.Tests.{le-ltb}
use Rattle.ranges.specs.Range.{Range, Covers, Coalesced}
use Rattle.ranges.specs.Run.{RunsOf}
use Rattle.ranges.specs.Store.{capacity, most_pairs, counted}
use Rattle.ranges.proofs.Runs.{runs_of, one-runs}
use Rattle.ranges.proofs.Without.{part_covers}
use Rattle.outcomes.specs.Outcome.{accepted}
use Rattle.outcomes.specs.Refusal.{refusing}
use Rattle.outcomes.specs.Checks.{NoneOf}
use Rattle.outcomes.specs.declared.Refusal.TheVariants as refusal
use Rattle.reception.specs.declared.Reception.{Reception}
use Rattle.reception.specs.Record.{record_checks}
use Rattle.reception.specs.Data.{data_leaves, segment_checks, data_checks}
use Rattle.reception.specs.Eof.{eof_leaves, size_checks, eof_checks}
use Rattle.reception.specs.History.{Data, Eof}
use Rattle.reception.proofs.Keeping.{kept_covers}
use Rattle.reception.proofs.Sound.{none-join}
use Rattle.reception.proofs.Standing.{Standing, standing-passed, after-whole}
use Rattle.reception.proofs.eof.Tail.{tail-whole, tail_covers}
use Rattle.pooling.specs.declared.Pool.{Pool}
use Rattle.pooling.specs.Pool.{most_transfers, record_at, count_at, floor_at, sum, any_below, is_floor_above, is_bad_settings, NoRoom}
use Rattle.pooling.specs.Share.{pool_checks, own_list}
use Rattle.pooling.proofs.Sums.{none_any}
use Rattle.pooling.proofs.Own.{Settled}
use Rattle.pooling.specs.History.{PoolState, PoolEvent, Fresh, answered, pool_run, came_of, largest_of, MissingOf, WouldMissOf, WouldMissTailOf, kept_or_noticed_of}
use Rattle.pooling.proofs.Histories.{own, room_at, start, none-met}
use Rattle.pooling.proofs.Missing as missing
use Rattle.pooling.proofs.Room.{data_refused, data-accepted, eof_refused, eof-accepted}

-- good settings pass 23
pub settings-passed : (p : Pool) (S : ℕ) → Settled p S → is_bad_settings p S ≡ false
unfolding is_bad_settings
settings-passed p S g =
    let n : any_below (is_floor_above p) p.used ≡ false = none_any (is_floor_above p) p.used (λ k l. le-ltb _ _ (g.floors k l)) in
    rw (le-ltb most_transfers p.used g.few, n) (le-ltb S (sum (floor_at p) p.used) g.within)

-- what the mark answers, said of the metadata
told_by_mark : (m c : Bool) → m ≡ not c → accepted (cond m (0 ∷ []) (1 ∷ [])) ≡ cond c (accepted (1 ∷ [])) (accepted (0 ∷ []))
told_by_mark m true e = rw e
told_by_mark m false e = rw e

module _ (p : Pool) (xs : List ℕ) (size : length xs ≡ 2 * capacity xs) (few : capacity xs ≤ most_pairs) (good : is_bad_settings p (capacity xs) ≡ false) (fresh : Fresh p) (es : List PoolEvent)
    (k : ℕ) (l : k < p.used) where
  abbrev first : PoolState
  first = start p xs size few good fresh

  abbrev before : PoolState
  before = pool_run first es

  abbrev rec : Reception
  rec = record_at before.pool k

  abbrev ys : List ℕ
  ys = own_list before.pool before.list k

  stands : Standing (own before k) (room_at before k)
  stands = ((missing.all_hold p xs size few good fresh es).each k (missing.in_use p xs size few good fresh es k l)).standing

  mark : rec.missing ≡ not (came_of k first es)
  mark = (missing.all_hold p xs size few good fresh es).marks k (missing.in_use p xs size few good fresh es k l)

  progress : rec.progress ≡ largest_of k first es
  progress = missing.progress-largest p xs size few good fresh es k l

  exact : (x : ℕ) → Covers x (counted ys rec.count) ↔ MissingOf k first es x
  exact x = rw (missing.same p xs size few good fresh es k l) (missing.missing_exact p xs size few good fresh es k l x)

  none : NoneOf (pool_checks before.pool before.list k)
  none =
      let h = missing.all_hold p xs size few good fresh es in
      none-met before _ _ _ h k (missing.in_use p xs size few good fresh es k l) (settings-passed before.pool (capacity before.list) h.settings)

  -- the data event (o, z)
  module _ (o z : ℕ) (some : z ≡ 0 → ⊥) where
    abbrev would : List Range
    would = data_leaves rec ys o z

    ordered : o < o + z
    ordered = omega (arith, some)

    would-whole : Coalesced would
    would-whole = after-whole rec.missing rec.progress o (o + z) (counted ys rec.count) ordered stands.whole stands.last

    would-exact : (x : ℕ) → Covers x would ↔ WouldMissOf k first es o z x
    would-exact x = go (came_of k first es) refl
      where
        go : (c : Bool) → came_of k first es ≡ c → Covers x would ↔ WouldMissOf k first es o z x
        go true e =
            let w = kept_covers rec.progress o (o + z) (counted ys rec.count) ordered stands.whole stands.last x in
            let i = exact x in
            rw (mark, e) (
              λ h. ⊎_elim (λ g. inl (i.0 g.0, g.1)) (λ g. inr (omega (arith, progress), g.1)) (w.0 h),
              ⊎_elim (λ g. w.1 (inl (i.1 g.0, g.1))) (λ g. w.1 (inr (omega (arith, progress), g.1))),
            )
        go false e =
            let w = part_covers x 0 (max rec.progress (o + z)) in
            rw (mark, e) (λ h. let u = (w.0 h).1 in omega (arith, progress), λ h. w.1 (omega arith, omega (arith, progress)))

    would-runs : RunsOf (WouldMissOf k first es o z) would
    would-runs = runs_of (WouldMissOf k first es o z) would would-whole would-exact

    -- there are such runs
    pub some_runs : (rs : List Range) × RunsOf (WouldMissOf k first es o z) rs
    some_runs = (would, would-runs)

    module _ (valid : NoneOf (segment_checks rec o z)) (rs : List Range) (runs : RunsOf (WouldMissOf k first es o z) rs) where
      as_long : length rs ≡ length would
      as_long = ap length (one-runs (WouldMissOf k first es o z) rs would runs would-runs)

      passes : NoneOf (data_checks rec ys o z)
      passes = none-join (record_checks rec ys) (segment_checks rec o z) (standing-passed (own before k) (room_at before k) stands) valid

      -- refused with 1 exactly if there are more of them than it holds ranges, and there is no room for one more
      pub room-full : (answered before (k, Data o z) ≡ refusing refusal.StoreFull) ↔ ((count_at before.pool k < length rs) × NoRoom before.pool (capacity before.list) k)
      room-full = rw as_long (data_refused before.pool before.list k none o z passes)

      -- else accepted
      pub room-enough : ((count_at before.pool k < length rs) × NoRoom before.pool (capacity before.list) k → ⊥) → answered before (k, Data o z) ≡ kept_or_noticed_of k first es
      room-enough c =
          data-accepted before.pool before.list k none o z passes (rw as_long at c)
          ∙ told_by_mark rec.missing (came_of k first es) mark

  -- the end of file with size z
  module _ (z : ℕ) where
    abbrev tail : List Range
    tail = eof_leaves rec ys z

    tail-exact : (x : ℕ) → Covers x tail ↔ WouldMissTailOf k first es z x
    tail-exact x = go (came_of k first es) refl
      where
        go : (c : Bool) → came_of k first es ≡ c → Covers x tail ↔ WouldMissTailOf k first es z x
        go true e =
            let w = tail_covers rec.progress z (counted ys rec.count) stands.whole x in
            let i = exact x in
            rw (mark, e) (
              λ h. ⊎_elim (λ g. inl (i.0 g)) (λ g. inr (omega (arith, progress), g.1)) (w.0 h),
              ⊎_elim (λ g. w.1 (inl (i.1 g))) (λ g. w.1 (inr (omega (arith, progress), g.1))),
            )
        go false e = let w = part_covers x 0 z in rw (mark, e) (λ h. (w.0 h).1, λ h. w.1 (omega arith, h))

    tail-runs : RunsOf (WouldMissTailOf k first es z) tail
    tail-runs = runs_of (WouldMissTailOf k first es z) tail (tail-whole rec.missing rec.progress z (counted ys rec.count) stands.whole) tail-exact

    pub some-tail-runs : (rs : List Range) × RunsOf (WouldMissTailOf k first es z) rs
    some-tail-runs = (tail, tail-runs)

    module _ (valid : NoneOf (size_checks rec z)) (rs : List Range) (runs : RunsOf (WouldMissTailOf k first es z) rs) where
      tail-long : length rs ≡ length tail
      tail-long = ap length (one-runs (WouldMissTailOf k first es z) rs tail runs tail-runs)

      tail-passes : NoneOf (eof_checks rec ys z)
      tail-passes = none-join (record_checks rec ys) (size_checks rec z) (standing-passed (own before k) (room_at before k) stands) valid

      pub eof-room-full : (answered before (k, Eof z) ≡ refusing refusal.StoreFull) ↔ ((count_at before.pool k < length rs) × NoRoom before.pool (capacity before.list) k)
      eof-room-full = rw tail-long (eof_refused before.pool before.list k none z tail-passes)

      pub eof-room-enough : ((count_at before.pool k < length rs) × NoRoom before.pool (capacity before.list) k → ⊥) → answered before (k, Eof z) ≡ accepted []
      eof-room-enough c = eof-accepted before.pool before.list k none z tail-passes (rw tail-long at c)
