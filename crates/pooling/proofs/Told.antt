-- What any list of events leaves in the record of a transfer, besides progress: the width is the one that it began with, the mark is clear
-- exactly if a metadata event of its own was accepted, and the size is the one that its accepted EOF told.
use mathlib.Core.Path.{◌≡◌, refl, sym, ap, ◌∙◌}
use mathlib.Core.Bool.{Bool, true, false, not, cond}
use mathlib.Core.List.{List, [], ◌∷◌}
use Prim.Native.Nat.{ℕ, ◌*◌, ◌≤◌, ◌<◌}
use lib.Dec.{eqb}
use lib.ListN.{length}
use borrow.Author.Tests.{eqb-true, eqb-false}
use Rattle.ranges.specs.Store.{capacity, most_pairs}
use Rattle.ranges.proofs.Test.{and_none, and_true}
use Rattle.reception.specs.declared.Reception.{Reception}
use Rattle.reception.specs.History.{is_accepted, step, size_by}
use Rattle.reception.proofs.Records.{step_width, size_of, later, step-size, later_by}
use Rattle.pooling.specs.declared.Pool.{Pool}
use Rattle.pooling.specs.Pool.{record_at, is_bad_settings}
use Rattle.pooling.specs.History.{PoolState, PoolEvent, Fresh, is_taken, pool_step, pool_run, takes, came_of, told_of}
use Rattle.pooling.proofs.Histories.{own, PoolHolds, record_own, pool-step, start, start-holds}
use Rattle.pooling.proofs.Missing.{own-accepts, other_record, all_hold, in_use}

module _ (s : PoolState) (P : ℕ → ℕ → Type 0) (n : ℕ → ℕ) (known : ℕ → Bool) (h : PoolHolds s P n known) (e : PoolEvent) (k : ℕ) where
  -- an event of transfer k that is accepted is one that its own reception accepts
  mine-accepts : takes k s e ≡ true → is_accepted (own s k) e.1 ≡ true
  mine-accepts f =
      let w = and_true (eqb e.0 k) (is_taken s e) f in
      rw (← eqb-true e.0 k w.0) (own-accepts s e w.1).1

  -- its record afterwards
  record-after : record_at (pool_step s e).pool k ≡ cond (takes k s e) (step (own s k) e.1).rec (record_at s.pool k)
  record-after = go (is_taken s e) refl (eqb e.0 k) refl
    where
      go : (t : Bool) → is_taken s e ≡ t → (u : Bool) → eqb e.0 k ≡ u → record_at (pool_step s e).pool k ≡ cond (takes k s e) (step (own s k) e.1).rec (record_at s.pool k)
      go true f true g =
          let w = own-accepts s e f in
          let q : e.0 ≡ k = eqb-true _ _ g in
          let a : record_at (pool_step s e).pool e.0 ≡ (step (own s e.0) e.1).rec = rw f (record_own s P n known h e.0 w.0 e.1 w.1) in
          ap (record_at (pool_step s e).pool) (sym q) ∙ a ∙ ap (λ (j : ℕ). (step (own s j) e.1).rec) q ∙ rw (g, f)
      go true f false g = other_record s P n known h e k (λ q. eqb-false _ _ g (sym q)) ∙ rw g
      go false f u g = rw (f, and_none (eqb e.0 k))

  width-after : (record_at (pool_step s e).pool k).width ≡ (record_at s.pool k).width
  width-after = ap (λ (r : Reception). r.width) record-after ∙ go (takes k s e)
    where
      go : (t : Bool) → (cond t (step (own s k) e.1).rec (record_at s.pool k)).width ≡ (record_at s.pool k).width
      go true = step_width (own s k) e.1
      go false = refl

  size-after : size_of (record_at (pool_step s e).pool k) ≡ later (size_by (takes k s e) e.1 []) (size_of (record_at s.pool k))
  size-after = ap size_of record-after ∙ go (takes k s e) refl
    where
      go : (t : Bool) → takes k s e ≡ t
          → size_of (cond (takes k s e) (step (own s k) e.1).rec (record_at s.pool k)) ≡ later (size_by (takes k s e) e.1 []) (size_of (record_at s.pool k))
      go true f =
          rw f (step-size (own s k) e.1 ∙ ap (λ (b : Bool). later (size_by b e.1 []) (size_of (record_at s.pool k))) (mine-accepts f))
      go false f = rw f

width_from : (es : List PoolEvent) (s : PoolState) (P : ℕ → ℕ → Type 0) (n : ℕ → ℕ) (known : ℕ → Bool) → PoolHolds s P n known → (k : ℕ)
    → (record_at (pool_run s es).pool k).width ≡ (record_at s.pool k).width
width_from [] s P n known h k = refl
width_from (e ∷ es) s P n known h k = width_from es (pool_step s e) _ _ _ (pool-step s P n known h e) k ∙ width-after s P n known h e k

size-from : (es : List PoolEvent) (s : PoolState) (P : ℕ → ℕ → Type 0) (n : ℕ → ℕ) (known : ℕ → Bool) → PoolHolds s P n known → (k : ℕ)
    → size_of (record_at (pool_run s es).pool k) ≡ later (told_of k s es) (size_of (record_at s.pool k))
size-from [] s P n known h k = refl
size-from (e ∷ es) s P n known h k =
    size-from es (pool_step s e) _ _ _ (pool-step s P n known h e) k
    ∙ ap (later (told_of k (pool_step s e) es)) (size-after s P n known h e k)
    ∙ later_by (takes k s e) e.1 (told_of k (pool_step s e) es) (size_of (record_at s.pool k))

-- from a fresh pool
module _ (p : Pool) (xs : List ℕ) (size : length xs ≡ 2 * capacity xs) (few : capacity xs ≤ most_pairs) (good : is_bad_settings p (capacity xs) ≡ false) (fresh : Fresh p)
    (es : List PoolEvent) (k : ℕ) (l : k < p.used) where
  abbrev first : PoolState
  first = start p xs size few good fresh

  -- each transfer keeps its own width
  pub width_same : (record_at (pool_run first es).pool k).width ≡ (record_at p k).width
  width_same = width_from es first _ _ _ (start-holds p xs size few good fresh) k

  -- the mark is clear exactly if a metadata event of its own was accepted
  pub mark_metadata : (record_at (pool_run first es).pool k).missing ≡ not (came_of k first es)
  mark_metadata = (all_hold p xs size few good fresh es).marks k (in_use p xs size few good fresh es k l)

  -- the size is the one that its accepted EOF told
  pub told-size : size_of (record_at (pool_run first es).pool k) ≡ told_of k first es
  told-size =
      size-from es first _ _ _ (start-holds p xs size few good fresh) k
      ∙ ap (λ (r : Reception). later (told_of k first es) (size_of r)) (fresh.each k l)
      ∙ alone (told_of k first es)
    where
      alone : (zs : List ℕ) → later zs [] ≡ zs
      alone [] = refl
      alone (z ∷ zs) = refl
