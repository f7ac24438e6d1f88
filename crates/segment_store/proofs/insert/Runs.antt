-- The maximal runs of a coalesced list with a range behind it are the list with the range put into it.
use mathlib.Core.Path.{◌≡◌, refl, ap, ◌∙◌}
use mathlib.Core.List.{List, [], ◌∷◌, ◌++◌}
use Prim.Native.Nat.{ℕ, ◌<◌}
use borrow.Author.Tests.{lt-ltb}
use Rattle.ranges.specs.Range.{Range, range, Coalesced}
use Rattle.ranges.specs.Insert.{insert, join}
use Rattle.ranges.proofs.Unique.{unique}
use Rattle.segment_store.specs.Coalesce.{gather, maximal_runs}
use Rattle.segment_store.proofs.coalesce.Meaning.{runs-coalesced, runs_covers}

gather-last : (qs rs : List Range) (r : Range) → gather qs (rs ++ (r ∷ [])) ≡ join r (gather qs rs)
gather-last qs [] r = refl
gather-last qs (q ∷ rs) r = gather-last (join q qs) rs r

-- a coalesced list is its own list of maximal runs
pub runs_same : (rs : List Range) → Coalesced rs → maximal_runs rs ≡ rs
runs_same rs s = unique (maximal_runs rs) rs (runs-coalesced rs) s (λ x. runs_covers x rs)

pub runs_inserted : (s e : ℕ) (rs : List Range) → s < e → Coalesced rs → maximal_runs (rs ++ (range s e ∷ [])) ≡ insert (range s e) rs
unfolding maximal_runs
runs_inserted s e rs lt c = gather-last [] rs (range s e) ∙ ap (join (range s e)) (runs_same rs c) ∙ rw (lt-ltb s e lt)
