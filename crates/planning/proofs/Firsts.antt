-- Laws of the first number below n that passes a test, and of a test of a plan.
use mathlib.Core.Path.{◌≡◌, refl, ap, ◌∙◌}
use mathlib.Core.Bool.{Bool, true, false, ◌||◌}
use mathlib.Core.Logic.{⊎_elim}
use Prim.Native.Nat.{ℕ, zero, suc, ◌+◌, ◌≤◌, ◌<◌}
use native.Mathlib.Nat.{eq-or-lt_of_le}
use native.Mathlib.Numerals.{add-one}
use native.Mathlib.Omega.{arith}
use native.Mathlib.Decide.{dec_lt}
use lib.Dec.{ltb}
use borrow.Author.Tests.{lt-ltb, le-ltb, ltb-true, ltb-false}
use Rattle.ranges.proofs.Test.{or_false}
use Rattle.planning.specs.Tests.{first_below}

-- none before it passes
pub first-before : (t : ℕ → Bool) (n k : ℕ) → k < first_below t n → t k ≡ false
first-before t zero k h = absurd (omega arith)
first-before t (suc n) k h = go (ltb (first_below t n) n) (t n) refl refl (first-before t n k) (dec_lt k n)
  where
    go : (u v : Bool) → ltb (first_below t n) n ≡ u → t n ≡ v → (k < first_below t n → t k ≡ false) → Dec (k < n) → t k ≡ false
    go true v e f i d = i (rw e at h)
    go false true e f i d = let m : n ≤ first_below t n = ltb-false _ _ e in let l : k < n = rw (e, f) at h in i (omega arith)
    go false false e f i (yes l) = let m : n ≤ first_below t n = ltb-false _ _ e in i (omega arith)
    go false false e f i (no l) = let g : k < suc n = rw (e, f) at h in let q : k ≡ n = omega arith in ap t q ∙ f

-- it passes
pub first-at : (t : ℕ → Bool) (n : ℕ) → first_below t n < n → t (first_below t n) ≡ true
first-at t zero h = absurd (omega arith)
first-at t (suc n) h = go (ltb (first_below t n) n) (t n) refl refl (first-at t n)
  where
    go : (u v : Bool) → ltb (first_below t n) n ≡ u → t n ≡ v → (first_below t n < n → t (first_below t n) ≡ true) → t (first_below t (suc n)) ≡ true
    go true v e f i = rw e (i (ltb-true _ _ e))
    go false true e f i = rw (e, f) f
    go false false e f i = let g : suc n < suc n = rw (e, f) at h in absurd (omega arith)

-- it is at most n
pub first-most : (t : ℕ → Bool) (n : ℕ) → first_below t n ≤ n
first-most t zero = omega arith
first-most t (suc n) = go (ltb (first_below t n) n) (t n) refl refl (first-most t n)
  where
    go : (a b : Bool) → ltb (first_below t n) n ≡ a → t n ≡ b → first_below t n ≤ n → first_below t (suc n) ≤ suc n
    go true b e f i = rw e (omega arith)
    go false true e f i = rw (e, f) (omega arith)
    go false false e f i = rw (e, f) (omega arith)

-- where none passes
pub first-none : (t : ℕ → Bool) (n : ℕ) → ((k : ℕ) → k < n → t k ≡ false) → first_below t n ≡ n
first-none t zero f = refl
first-none t (suc n) f = let i = first-none t n (λ k h. f k (omega arith)) in rw (i, le-ltb n n (omega arith), f n (omega arith))

-- a turn of a loop: the next does not pass; it does, and the loop ends
pub first_more : (t : ℕ → Bool) (k : ℕ) → first_below t k ≡ k → t k ≡ false → first_below t (k + 1) ≡ k + 1
first_more t k p q = rw (add-one k, p, le-ltb k k (omega arith), q)

pub first_early : (t : ℕ → Bool) (k n : ℕ) → first_below t k ≡ k → t k ≡ true → k < n → first_below t n ≡ k
first_early t k zero p q l = absurd (omega arith)
first_early t k (suc n) p q l =
    ⊎_elim
    (λ (e : k ≡ n). rw (← e, p, le-ltb k k (omega arith), q))
    (λ (m : k < n). rw (first_early t k n p q m, lt-ltb k n m))
    (eq-or-lt_of_le {n = k} {m = n} (omega arith))

-- a test is passed exactly if no PDU is at fault and nothing lacks
pub passes : (n : ℕ) (fault : ℕ → Bool) (lacks : Bool) → (ltb (first_below fault n) n || lacks) ≡ false → ((k : ℕ) → k < n → fault k ≡ false) × (lacks ≡ false)
passes n fault lacks e =
    let p = or_false _ _ e in
    let h : n ≤ first_below fault n = ltb-false _ _ p.0 in
    (λ k l. first-before fault n k (omega arith), p.1)

pub pass : (n : ℕ) (fault : ℕ → Bool) (lacks : Bool) → ((k : ℕ) → k < n → fault k ≡ false) → lacks ≡ false → (ltb (first_below fault n) n || lacks) ≡ false
pass n fault lacks f e = rw (first-none fault n f, le-ltb n n (omega arith), e)
