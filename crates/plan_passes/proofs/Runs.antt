-- The maximal runs stand for all requests so far: further requests repeat an offset of the one exactly if they repeat one of the other.
use mathlib.Core.Path.{◌≡◌, refl, sym, ap₂, ◌∙◌}
use mathlib.Core.Bool.{Bool, true, false, ◌||◌, true≢false}
use mathlib.Core.List.{List, [], ◌∷◌, ◌++◌}
use mathlib.Core.Logic.{inl, inr, ⊎_elim}
use Prim.Native.Nat.{ℕ, zero, suc, ◌+◌, ◌-◌}
use Rattle.ranges.specs.Range.{Range, Same}
use Rattle.ranges.proofs.Covering.{covers_append, append_covers}
use Rattle.ranges.proofs.Unique.{unique}
use Rattle.nak_parsing.specs.Step.{requests_given}
use Rattle.holding.specs.Count.{is_covered}
use Rattle.holding.proofs.Counting.{covered-set}
use Rattle.segment_store.specs.Coalesce.{maximal_runs}
use Rattle.segment_store.proofs.coalesce.Meaning.{runs-coalesced, runs_covers}
use Rattle.planning.specs.Plan.{Plan, packet, requests_of, asked_before}
use Rattle.planning.specs.Tests.{any_from, asks_again, is_repeat}

same-append : (qs ps rs : List Range) → Same qs ps → Same (qs ++ rs) (ps ++ rs)
same-append qs ps rs s x = (
  λ h. append_covers x ps rs (⊎_elim (λ g. inl ((s x).0 g)) (λ g. inr g) (covers_append x qs rs h)),
  λ h. append_covers x qs rs (⊎_elim (λ g. inl ((s x).1 g)) (λ g. inr g) (covers_append x ps rs h)),
)

pub covered_same : (qs ps : List Range) → Same qs ps → (x : ℕ) → is_covered qs x ≡ is_covered ps x
covered_same qs ps s x = go (is_covered qs x) (is_covered ps x) refl refl
  where
    go : (t u : Bool) → is_covered qs x ≡ t → is_covered ps x ≡ u → t ≡ u
    go true true e f = refl
    go false false e f = refl
    go true false e f = absurd (true≢false (sym ((covered-set ps x).1 ((s x).0 ((covered-set qs x).0 e))) ∙ f))
    go false true e f = absurd (true≢false (sym ((covered-set qs x).1 ((s x).1 ((covered-set ps x).0 f))) ∙ e))

any_same : (t u : ℕ → Bool) (s n : ℕ) → ((x : ℕ) → t x ≡ u x) → any_from t s n ≡ any_from u s n
any_same t u s zero f = refl
any_same t u s (suc n) f = ap₂ (λ (a b : Bool). a || b) (f (s + n)) (any_same t u s n f)

again_same : (qs ps rs : List Range) → Same qs ps → asks_again qs rs ≡ asks_again ps rs
again_same qs ps [] s = refl
again_same qs ps (r ∷ rs) s =
    ap₂ (λ (a b : Bool). a || b)
    (any_same (is_covered qs) (is_covered ps) r.start (r.end - r.start) (covered_same qs ps s))
    (again_same (qs ++ (r ∷ [])) (ps ++ (r ∷ [])) rs (same-append qs ps (r ∷ []) s))

runs_same : (qs : List Range) → Same (maximal_runs qs) qs
runs_same qs x = runs_covers x qs

pub again_runs : (qs rs : List Range) → asks_again (maximal_runs qs) rs ≡ asks_again qs rs
again_runs qs rs = again_same (maximal_runs qs) qs rs (runs_same qs)

pub runs-more : (qs rs : List Range) → maximal_runs (maximal_runs qs ++ rs) ≡ maximal_runs (qs ++ rs)
runs-more qs rs =
    unique (maximal_runs (maximal_runs qs ++ rs)) (maximal_runs (qs ++ rs)) (runs-coalesced (maximal_runs qs ++ rs)) (runs-coalesced (qs ++ rs))
    (λ x.
    let s = same-append (maximal_runs qs) qs rs (runs_same qs) x in (
      λ h. (runs_covers x (qs ++ rs)).1 (s.0 ((runs_covers x (maximal_runs qs ++ rs)).0 h)),
      λ h. (runs_covers x (maximal_runs qs ++ rs)).1 (s.1 ((runs_covers x (qs ++ rs)).0 h)),
    ))

pub runs_none : maximal_runs [] ≡ []
unfolding maximal_runs
runs_none = refl

-- the requests of PDU k join the runs of those before it
module _ (p : Plan) (k : ℕ) {os : List ℕ} {rs : List Range} (e : os ≡ packet p k) (r : rs ≡ maximal_runs (asked_before p k)) where
  pub repeat-is : asks_again rs (requests_given p.edition os) ≡ is_repeat p k
  repeat-is = rw (e, r) (again_runs (asked_before p k) (requests_of p k))

  pub runs-join : maximal_runs (rs ++ requests_given p.edition os) ≡ maximal_runs (asked_before p (suc k))
  runs-join = rw (e, r) (runs-more (asked_before p k) (requests_of p k))
