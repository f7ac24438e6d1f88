-- From a fresh pool with good settings over any lent list of at most 4,096 slots, after any list of events: the ranges of each transfer are
-- exactly the maximal runs of its offsets below its largest accepted end that none of its kept ranges covers; none is past its limit, and
-- the sum of the larger of held and floor is within the slots. An event of one transfer leaves every other as it was.
use mathlib.Core.Path.{◌≡◌, refl, sym, ap, ◌∙◌}
use mathlib.Core.Bool.{Bool, true, false}
use mathlib.Core.List.{List, [], ◌∷◌}
use mathlib.Core.Logic.{◌↔◌}
use Prim.Native.Nat.{ℕ, ◌*◌, ◌≤◌, ◌<◌, max}
use native.Mathlib.Omega.{arith}
use lib.Dec.{eqb}
use lib.ListN.{length, get_or}
use borrow.Author.Tests.{eqb-true, eqb-false}
use Rattle.ranges.specs.Range.{Range, Covers, Coalesced, last_end}
use Rattle.ranges.specs.Run.{RunsOf}
use Rattle.ranges.specs.Store.{pairs, capacity, most_pairs}
use Rattle.ranges.proofs.Runs.{runs_of}
use Rattle.ranges.proofs.Test.{and_none}
use Rattle.outcomes.proofs.FirstOf.{first-accepted}
use Rattle.reception.specs.declared.Reception.{Reception}
use Rattle.reception.specs.History.{outcome, is_accepted, end_by, ranges_of}
use Rattle.reception.proofs.Records.{step-progress, larger_end}
use Rattle.pooling.specs.declared.Pool.{Pool}
use Rattle.pooling.specs.Pool.{record_at, count_at, limit_at, is_bad_settings, claimed}
use Rattle.pooling.specs.Share.{own_ranges, pool_checks}
use Rattle.pooling.proofs.Own.{counted-list}
use Rattle.pooling.proofs.Ends.{ready}
use Rattle.pooling.specs.History.{PoolState, PoolEvent, Fresh, is_taken, pool_step, pool_run, takes, kept_of, accepted_of, came_of, largest_of, MissingOf}
use Rattle.pooling.proofs.Histories.{own, PoolHolds, record_own, record_others, part-others, pool-step, start, pool-holds, start-holds}

-- an accepted event is one of a transfer in use, and its own reception accepts it
pub own-accepts : (s : PoolState) (e : PoolEvent) → is_taken s e ≡ true → (e.0 < s.pool.used) × (is_accepted (own s e.0) e.1 ≡ true)
own-accepts s e f =
    let w = first-accepted (pool_checks s.pool s.list e.0) (outcome (own s e.0) e.1) f in
    ((ready s.pool s.list e.0 w.0).known, w.1)

-- the settings never change
pub used_step : (s : PoolState) (e : PoolEvent) → (pool_step s e).pool.used ≡ s.pool.used
used_step s e = go (is_taken s e) refl
  where
    go : (t : Bool) → is_taken s e ≡ t → (pool_step s e).pool.used ≡ s.pool.used
    go true f = rw f
    go false f = rw f

pub floors-step : (s : PoolState) (e : PoolEvent) → (pool_step s e).pool.floors ≡ s.pool.floors
floors-step s e = go (is_taken s e) refl
  where
    go : (t : Bool) → is_taken s e ≡ t → (pool_step s e).pool.floors ≡ s.pool.floors
    go true f = rw f
    go false f = rw f

pub limits-step : (s : PoolState) (e : PoolEvent) → (pool_step s e).pool.limits ≡ s.pool.limits
limits-step s e = go (is_taken s e) refl
  where
    go : (t : Bool) → is_taken s e ≡ t → (pool_step s e).pool.limits ≡ s.pool.limits
    go true f = rw f
    go false f = rw f

pub used-run : (es : List PoolEvent) (s : PoolState) → (pool_run s es).pool.used ≡ s.pool.used
used-run [] s = refl
used-run (e ∷ es) s = used-run es (pool_step s e) ∙ used_step s e

pub floors-run : (es : List PoolEvent) (s : PoolState) → (pool_run s es).pool.floors ≡ s.pool.floors
floors-run [] s = refl
floors-run (e ∷ es) s = floors-run es (pool_step s e) ∙ floors-step s e

pub limits-run : (es : List PoolEvent) (s : PoolState) → (pool_run s es).pool.limits ≡ s.pool.limits
limits-run [] s = refl
limits-run (e ∷ es) s = limits-run es (pool_step s e) ∙ limits-step s e

module _ (s : PoolState) (P : ℕ → ℕ → Type 0) (n : ℕ → ℕ) (known : ℕ → Bool) (h : PoolHolds s P n known) (e : PoolEvent) where
  -- an event of one transfer leaves the record and the ranges of every other
  pub other_record : (k : ℕ) → (k ≡ e.0 → ⊥) → record_at (pool_step s e).pool k ≡ record_at s.pool k
  other_record k c = go (is_taken s e) refl
    where
      go : (t : Bool) → is_taken s e ≡ t → record_at (pool_step s e).pool k ≡ record_at s.pool k
      go true f = let w = own-accepts s e f in rw f (record_others s P n known h e.0 w.0 e.1 w.1 k c)
      go false f = rw f

  pub other_ranges : (k : ℕ) → k < s.pool.used → (k ≡ e.0 → ⊥) → own_ranges (pool_step s e).pool (pool_step s e).list k ≡ own_ranges s.pool s.list k
  other_ranges k l c = go (is_taken s e) refl
    where
      go : (t : Bool) → is_taken s e ≡ t → own_ranges (pool_step s e).pool (pool_step s e).list k ≡ own_ranges s.pool s.list k
      go true f = let w = own-accepts s e f in rw f (ap pairs (part-others s P n known h e.0 w.0 e.1 w.1 k l c))
      go false f = rw f

  -- progress of transfer k
  step-progress-of : (k : ℕ) → k < s.pool.used → (record_at (pool_step s e).pool k).progress ≡ end_by (takes k s e) e.1 (record_at s.pool k).progress
  step-progress-of k l = go (is_taken s e) refl (eqb e.0 k) refl
    where
      go : (t : Bool) → is_taken s e ≡ t → (u : Bool) → eqb e.0 k ≡ u → (record_at (pool_step s e).pool k).progress ≡ end_by (takes k s e) e.1 (record_at s.pool k).progress
      go true f true g =
          let w = own-accepts s e f in
          let q : e.0 ≡ k = eqb-true _ _ g in
          let a : (record_at (pool_step s e).pool e.0).progress ≡ end_by true e.1 (record_at s.pool e.0).progress =
          rw f (ap (λ (r : Reception). r.progress) (record_own s P n known h e.0 w.0 e.1 w.1))
          ∙ step-progress (own s e.0) e.1
          ∙ ap (λ (b : Bool). end_by b e.1 (record_at s.pool e.0).progress) w.1 in
          ap (λ (j : ℕ). (record_at (pool_step s e).pool j).progress) (sym q) ∙ a ∙ ap (λ (j : ℕ). end_by true e.1 (record_at s.pool j).progress) q ∙ rw (g, f)
      go true f false g = ap (λ (r : Reception). r.progress) (other_record k (λ q. eqb-false _ _ g (sym q))) ∙ rw g
      go false f u g = rw (f, and_none (eqb e.0 k))

progress-from : (es : List PoolEvent) (s : PoolState) (P : ℕ → ℕ → Type 0) (n : ℕ → ℕ) (known : ℕ → Bool) → PoolHolds s P n known → (k : ℕ) → k < s.pool.used
    → (record_at (pool_run s es).pool k).progress ≡ max (record_at s.pool k).progress (largest_of k s es)
progress-from [] s P n known h k l = omega arith
progress-from (e ∷ es) s P n known h k l =
    progress-from es (pool_step s e) _ _ _ (pool-step s P n known h e) k (omega (arith, used_step s e))
    ∙ ap (λ (q : ℕ). max q (largest_of k (pool_step s e) es)) (step-progress-of s P n known h e k l)
    ∙ larger_end (takes k s e) e.1 (record_at s.pool k).progress (largest_of k (pool_step s e) es)

-- from a fresh pool
module _ (p : Pool) (xs : List ℕ) (size : length xs ≡ 2 * capacity xs) (few : capacity xs ≤ most_pairs) (good : is_bad_settings p (capacity xs) ≡ false) (fresh : Fresh p) (es : List PoolEvent) where
  abbrev first : PoolState
  first = start p xs size few good fresh

  abbrev pub reached : PoolState
  reached = pool_run first es

  pub all_hold : PoolHolds reached (λ k x. Covers x (kept_of k first es)) (λ k. accepted_of k first es) (λ k. came_of k first es)
  all_hold = pool-holds p xs size few good fresh es

  module _ (k : ℕ) (l : k < p.used) where
    pub in_use : k < reached.pool.used
    in_use = omega (arith, l, used-run es first)

    -- the transfer's ranges
    abbrev pub mine : List Range
    mine = own_ranges reached.pool reached.list k

    pub same : ranges_of (own reached k) ≡ mine
    same = counted-list reached.pool reached.list k in_use all_hold.share

    pub progress-largest : (record_at reached.pool k).progress ≡ largest_of k first es
    progress-largest =
        let a = progress-from es first _ _ _ (start-holds p xs size few good fresh) k l in
        let b : (record_at p k).progress ≡ 0 = ap (λ (r : Reception). r.progress) (fresh.each k l) in
        omega (arith, a, b)

    pub missing_exact : (x : ℕ) → Covers x mine ↔ MissingOf k first es x
    missing_exact x = rw (← same, ← progress-largest) ((all_hold.each k in_use).exact x)

    -- coalesced, and at or below progress
    pub list-coalesced : Coalesced mine
    list-coalesced = rw (← same) (all_hold.each k in_use).standing.whole

    pub list-ends : last_end mine ≤ (record_at reached.pool k).progress
    list-ends = rw (← same) (all_hold.each k in_use).standing.last

    -- exactly the maximal runs of what is missing
    pub missing_runs : RunsOf (MissingOf k first es) mine
    missing_runs = runs_of (MissingOf k first es) mine list-coalesced missing_exact

    -- none passes its limit
    pub within-limit : count_at reached.pool k ≤ limit_at p k
    within-limit = rw (← ap (λ (ls : List ℕ). get_or ls k 0) (limits-run es first)) (all_hold.share.limits k in_use)

    -- an event of another transfer leaves its record and its ranges
    pub apart : (e : PoolEvent) → (k ≡ e.0 → ⊥)
        → (record_at (pool_step reached e).pool k ≡ record_at reached.pool k) × (own_ranges (pool_step reached e).pool (pool_step reached e).list k ≡ mine)
    apart e c = (other_record reached _ _ _ all_hold e k c, other_ranges reached _ _ _ all_hold e k in_use c)

  -- the sum of the larger of held and floor never passes the slots
  pub within-slots : claimed reached.pool ≤ capacity reached.list
  within-slots = all_hold.share.claims
