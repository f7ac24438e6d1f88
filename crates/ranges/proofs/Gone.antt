-- The part that a cut takes is the one whose numbers hold.
use mathlib.Core.Path.{◌≡◌, refl}
use mathlib.Core.Bool.{Bool, true, false}
use mathlib.Core.Logic.{◌↔◌}
use Prim.Native.Nat.{ℕ}
use lib.Dec.{ltb}
use borrow.Author.Tests.{lt-ltb, le-ltb, ltb-true, ltb-false}
use Rattle.ranges.specs.Inner.Cut.{gone_of, Took}
use Rattle.ranges.specs.declared.inner.cut.Part.{Part}
use Rattle.ranges.specs.declared.inner.cut.Part.TheVariants as part

took : (a b s e : ℕ) → Took (gone_of a b s e) a b s e
took a b s e = go (ltb s a) refl (ltb b e) refl
  where
    go : (t : Bool) → ltb s a ≡ t → (u : Bool) → ltb b e ≡ u → Took (gone_of a b s e) a b s e
    go true f true g = rw (f, g) (ltb-true _ _ f, ltb-true _ _ g)
    go true f false g = rw (f, g) (ltb-true _ _ f, ltb-false _ _ g)
    go false f true g = rw (f, g) (ltb-false _ _ f, ltb-true _ _ g)
    go false f false g = rw (f, g) (ltb-false _ _ f, ltb-false _ _ g)

takes : (p : Part) (a b s e : ℕ) → Took p a b s e → p ≡ gone_of a b s e
takes part.Whole a b s e h = rw (le-ltb s a h.0, le-ltb b e h.1)
takes part.Left a b s e h = rw (le-ltb s a h.0, lt-ltb b e h.1)
takes part.Right a b s e h = rw (lt-ltb s a h.0, le-ltb b e h.1)
takes part.Split a b s e h = rw (lt-ltb s a h.0, lt-ltb b e h.1)

pub gone_took : (p : Part) (a b s e : ℕ) → (p ≡ gone_of a b s e) ↔ Took p a b s e
gone_took p a b s e = (λ h. rw h (took a b s e), takes p a b s e)
