-- What `ok_or(..)?` tells of the ranges that an event leaves: how many there are, or that there is no room for them.
use Rattle.std.specs.Prelude.{Option, Ok, Err}
use Rattle.std.specs.Option.{ok_or}
use mathlib.Core.Path.{◌≡◌, refl}
use mathlib.Core.Bool.{Bool, true, false}
use mathlib.Core.List.{List}
use Prim.Native.Nat.{ℕ}
use lib.ListN.{length}
use lib.Dec.{ltb}
use Rattle.ranges.specs.Range.{Range}
use Rattle.ranges.specs.Inner.Cut.{cut_answer}
use Rattle.outcomes.specs.declared.Refusal.{Refusal}

module _ (cap : ℕ) (qs : List Range) (q : Refusal) (o : Option ℕ) (told : o ≡ cut_answer cap qs) where
  pub left : (n : ℕ) → Ok n ≡ ok_or o q → (ltb cap (length qs) ≡ false) × (n ≡ length qs)
  left n e = go (ltb cap (length qs)) refl
    where
      go : (t : Bool) → ltb cap (length qs) ≡ t → (ltb cap (length qs) ≡ false) × (n ≡ length qs)
      go true f = let w = rw (told, f) at e in cc w
      go false f = let w = rw (told, f) at e in (f, cc w)

  pub none-left : (r : Refusal) → Err r ≡ ok_or o q → (ltb cap (length qs) ≡ true) × (r ≡ q)
  none-left r e = go (ltb cap (length qs)) refl
    where
      go : (t : Bool) → ltb cap (length qs) ≡ t → (ltb cap (length qs) ≡ true) × (r ≡ q)
      go true f = let w = rw (told, f) at e in (f, cc w)
      go false f = let w = rw (told, f) at e in cc w
