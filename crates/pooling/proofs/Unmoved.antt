-- The metadata event leaves the pool's list as it was, whatever it answers: so the call need only read it.
use mathlib.Core.Path.{◌≡◌, refl, sym, ap, ◌∙◌}
use mathlib.Core.Bool.{Bool, true, false}
use mathlib.Core.List.{List, ◌++◌}
use Prim.Native.Nat.{ℕ, ◌+◌, ◌*◌, ◌≤◌}
use native.Mathlib.Omega.{arith}
use lib.Dec.{eqb}
use lib.ListN.{length, take, drop, take-append-drop}
use lib.Seq.{take-add}
use Rattle.ranges.specs.Range.{Range}
use Rattle.ranges.specs.Store.{pairs, stored}
use Rattle.ranges.specs.Inner.Moves.{replaced}
use Rattle.ranges.proofs.Flat.{pairs-flat}
use Rattle.ranges.proofs.Stored.{stored_same}
use Rattle.outcomes.proofs.FirstOf.{first-accepted}
use Rattle.reception.specs.History.{Metadata, outcome, step, ranges_of}
use Rattle.pooling.specs.declared.Pool.{Pool}
use Rattle.pooling.specs.Pool.{record_at, count_at, claimed}
use Rattle.pooling.specs.Share.{base, total, all_ranges, pool_checks, own_list, own_state}
use Rattle.pooling.specs.Events.{event_outcome, with_ranges, event_list}
use Rattle.pooling.proofs.Own.{part-ends, total-claimed, counted-list}
use Rattle.pooling.proofs.Ends.{Ready, ready}
use Rattle.pooling.proofs.Stepped.{part_ranges}
use Rattle.pooling.proofs.Alone.{metadata-after}

-- a run of ranges replaced by itself
replaced-same : (at m : ℕ) (rs : List Range) → replaced at (at + m) (take m (drop at rs)) rs ≡ rs
unfolding replaced
replaced-same at m rs = ap (λ (l : List Range). l ++ drop (at + m) rs) (sym (take-add at m rs)) ∙ take-append-drop (at + m) rs

pub metadata-list : (p : Pool) (xs : List ℕ) (i : ℕ) → event_list p xs i Metadata ≡ xs
metadata-list p xs i = go (eqb (event_outcome p xs i Metadata).number 0) refl
  where
    same : Ready p xs i → stored (with_ranges p xs i (ranges_of (step (own_state p xs i) Metadata))) (total p) xs ≡ xs
    same r =
        let s = r.share in
        let t : total p ≤ claimed p = total-claimed p in
        let z : 2 * total p ≤ length xs = omega (arith, t, s.claims, s.size) in
        let q : ranges_of (step (own_state p xs i) Metadata) ≡ take (count_at p i) (drop (base p i) (all_ranges p xs)) =
        metadata-after (record_at p i) (own_list p xs i) ∙ counted-list p xs i r.known s ∙ ap pairs (part_ranges p xs i (part-ends p i r.known) z)
        ∙ pairs-flat (take (count_at p i) (drop (base p i) (all_ranges p xs))) in
        ap (λ (rs : List Range). stored (with_ranges p xs i rs) (total p) xs) q
        ∙ ap (λ (rs : List Range). stored rs (total p) xs) (replaced-same (base p i) (count_at p i) (all_ranges p xs))
        ∙ stored_same xs (total p) z

    go : (t : Bool) → eqb (event_outcome p xs i Metadata).number 0 ≡ t → event_list p xs i Metadata ≡ xs
    go true f =
        let w = first-accepted (pool_checks p xs i) (outcome (own_state p xs i) Metadata) f in
        rw f (same (ready p xs i w.0))
    go false f = rw f
