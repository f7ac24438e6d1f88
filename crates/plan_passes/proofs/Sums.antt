-- Where a PDU starts: behind the sum of the lengths before it.
use mathlib.Core.Path.{◌≡◌, refl, sym, ap, ◌∙◌}
use mathlib.Core.List.{List, [], ◌∷◌}
use Prim.Native.Nat.{ℕ, zero, suc, ◌+◌}
use native.Mathlib.Omega.{arith}
use lib.ListN.{length}
use mathlib.Core.Bool.{Bool, true, false}
use Rattle.std.specs.Prelude.{sum, nat_eq}
use Rattle.std.specs.Cmp.Lexicographic.{pointwise, other_text}
use Rattle.std.proofs.lemmas.List.Sums.{sum_by-cons}
use Rattle.planning.specs.Plan.{start_of}

pub start-cons : (n : ℕ) (ls : List ℕ) (k : ℕ) → start_of (n ∷ ls) (suc k) ≡ n + start_of ls k
start-cons n ls zero = omega arith
start-cons n ls (suc k) = let i = start-cons n ls k in omega (arith, i)

pub sum-cons : (n : ℕ) (ls : List ℕ) → sum (n ∷ ls) ≡ n + sum ls
sum-cons n ls = sum_by-cons (λ x. x) n ls

pub start_sum : (ls : List ℕ) → start_of ls (length ls) ≡ sum ls
start_sum [] = refl
start_sum (n ∷ ls) = start-cons n ls (length ls) ∙ ap (λ (m : ℕ). n + m) (start_sum ls) ∙ sym (sum-cons n ls)

-- lists of the same numbers are found the same
pub same_self : {xs ys : List ℕ} → xs ≡ ys → pointwise nat_eq xs ys ≡ true
same_self {xs = xs} {ys = ys} e = go (pointwise nat_eq ys ys) refl
  where
    go : (b : Bool) → pointwise nat_eq ys ys ≡ b → pointwise nat_eq xs ys ≡ true
    go true t = rw e t
    go false t = absurd (other_text ys ys (sym t) refl)
