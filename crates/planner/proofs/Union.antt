-- Test 5 on the maximal runs of all requests: it is passed exactly if they are what is missing.
use mathlib.Core.Path.{◌≡◌, refl, sym, subst, ◌∙◌}
use mathlib.Core.Bool.{Bool, true, false, ◌||◌}
use mathlib.Core.List.{List}
use lib.Dec.{ltb}
use Rattle.ranges.specs.Range.{Range, Covers, Coalesced}
use Rattle.ranges.proofs.Unique.{unique}
use Rattle.segment_store.specs.Coalesce.{maximal_runs}
use Rattle.segment_store.proofs.coalesce.Meaning.{runs-coalesced, runs_covers}
use Rattle.planning.specs.Plan.{Plan, pdus, requests_of, asked}
use Rattle.planning.specs.Tests.{first_below, is_unwanted, is_left_out}
use Rattle.planning.proofs.Firsts.{passes, pass}
use Rattle.planning.proofs.Offsets.{none_more}
use Rattle.planning.proofs.Exactly.{each_covers, covers_each}

module _ (p : Plan) (ms rs : List Range) (e : rs ≡ maximal_runs (asked p)) where
  pub union-same : rs ≡ ms → (ltb (first_below (is_unwanted p ms) (pdus p)) (pdus p) || is_left_out p ms) ≡ false
  union-same h =
      let q : maximal_runs (asked p) ≡ ms = sym e ∙ h in
      pass (pdus p) (is_unwanted p ms) (is_left_out p ms)
      (λ k l. (none_more ms (requests_of p k)).1 (λ x g. subst (Covers x) q ((runs_covers x (asked p)).1 (covers_each p (pdus p) k x l g))))
      ((none_more (asked p) ms).1 (λ x g. (runs_covers x (asked p)).0 (subst (Covers x) (sym q) g)))

  pub union_other : Coalesced ms → (rs ≡ ms → ⊥) → (ltb (first_below (is_unwanted p ms) (pdus p)) (pdus p) || is_left_out p ms) ≡ true
  union_other c n = go (ltb (first_below (is_unwanted p ms) (pdus p)) (pdus p) || is_left_out p ms) refl
    where
      go : (t : Bool) → (ltb (first_below (is_unwanted p ms) (pdus p)) (pdus p) || is_left_out p ms) ≡ t → t ≡ true
      go true f = refl
      go false f =
          let w = passes (pdus p) (is_unwanted p ms) (is_left_out p ms) f in
          absurd
          (n
          (e
          ∙ unique (maximal_runs (asked p)) ms (runs-coalesced (asked p)) c
          (λ x. (
            λ g. each_covers p ms (pdus p) w.0 x ((runs_covers x (asked p)).0 g),
            λ g. (runs_covers x (asked p)).1 ((none_more (asked p) ms).0 w.1 x g),
          ))))
