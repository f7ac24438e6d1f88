-- What a pass over some requests finds: whether one passes a test, and how many ask for metadata.
use mathlib.Core.Path.{◌≡◌, refl, ap}
use mathlib.Core.Bool.{Bool, true, false, ◌||◌}
use mathlib.Core.List.{List, [], ◌∷◌}
use native.Mathlib.Omega.{arith}
use lib.ListN.{length}
use Rattle.std.specs.List.{list_any, filter}
use Rattle.ranges.specs.Range.{Range, some}
use Rattle.nak.specs.Request.{is_metadata, metadata_asked}

pub some_list : (t : Range → Bool) (rs : List Range) → list_any t rs ≡ some t rs
some_list t [] = refl
some_list t (r ∷ rs) = ap (λ (b : Bool). t r || b) (some_list t rs)

pub asked_filtered : (rs : List Range) → length (filter is_metadata rs) ≡ metadata_asked rs
asked_filtered [] = refl
asked_filtered (r ∷ rs) = go (is_metadata r) refl (asked_filtered rs)
  where
    go : (b : Bool) → is_metadata r ≡ b → length (filter is_metadata rs) ≡ metadata_asked rs → length (filter is_metadata (r ∷ rs)) ≡ metadata_asked (r ∷ rs)
    go true e i = rw (e, i) (omega arith)
    go false e i = rw (e, i) (omega arith)
