-- Once the size of a record is known, no event changes it.
use mathlib.Core.Path.{◌≡◌, refl, ap, ◌∙◌}
use mathlib.Core.Bool.{Bool, true, false}
use mathlib.Core.List.{List, [], ◌∷◌}
use Prim.Native.Nat.{ℕ}
use native.Mathlib.Omega.{arith}
use lib.ListN.{length, get_or}
use Rattle.reception.specs.declared.Reception.{Reception}
use Rattle.reception.specs.History.{Event, Data, Metadata, Eof, State, is_accepted, step, run}
use Rattle.reception.proofs.Records.{size_of, refused-same}
use Rattle.reception.proofs.eof.Accepted.{eof_taken}

-- a record with a size has it known
pub sized_of : (rec : Reception) (z : ℕ) → size_of rec ≡ z ∷ [] → (rec.sized ≡ true) × (rec.size ≡ z)
sized_of rec z e = go rec.sized refl
  where
    go : (t : Bool) → rec.sized ≡ t → (rec.sized ≡ true) × (rec.size ≡ z)
    go true f = let k : rec.size ∷ [] ≡ z ∷ [] = rw f at e in (f, ap (λ (zs : List ℕ). get_or zs 0 0) k)
    go false f = let k : [] ≡ z ∷ [] = rw f at e in absurd (omega (arith, ap (λ (zs : List ℕ). length zs) k))

step_sized : (s : State) (e : Event) (z : ℕ) → size_of s.rec ≡ z ∷ [] → size_of (step s e).rec ≡ z ∷ []
step_sized s e z g = go e (is_accepted s e) refl
  where
    go : (e : Event) (t : Bool) → is_accepted s e ≡ t → size_of (step s e).rec ≡ z ∷ []
    go e false f = rw (refused-same s e f) g
    go (Data o n) true f = rw f g
    go Metadata true f = rw f g
    go (Eof y) true f =
        let w = sized_of s.rec z g in
        let k : y ≡ z = (eof_taken s.rec s.list y f).checks.same w.0 ∙ w.1 in
        rw f (ap (λ (n : ℕ). n ∷ []) k)

pub run_sized : (es : List Event) (s : State) (z : ℕ) → size_of s.rec ≡ z ∷ [] → size_of (run s es).rec ≡ z ∷ []
run_sized [] s z g = g
run_sized (e ∷ es) s z g = run_sized es (step s e) z (step_sized s e z g)
