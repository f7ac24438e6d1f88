-- Sums over transfers, and tests of every transfer.
use mathlib.Core.Path.{◌≡◌, refl, ap, ap₂}
use mathlib.Core.Bool.{Bool, true, false, ◌||◌}
use mathlib.Core.Logic.{◌⊎◌, ⊎_elim}
use Prim.Native.Nat.{ℕ, zero, suc, ◌+◌, ◌≤◌, ◌<◌}
use native.Mathlib.Nat.{eq-or-lt_of_le}
use native.Mathlib.Numerals.{add-one}
use native.Mathlib.Omega.{arith}
use Rattle.ranges.proofs.Test.{or_false, or_true}
use Rattle.pooling.specs.Pool.{sum, any_below}

-- below suc n: n, or below n
at_most : (i n : ℕ) → i ≤ n → (i ≡ n) ⊎ (i < n)
at_most i n h = eq-or-lt_of_le h

split : (i n : ℕ) → i < suc n → (i ≡ n) ⊎ (i < n)
split i n h = at_most i n (omega arith)

pub sum-within : (f : ℕ → ℕ) (i n : ℕ) → i < n → sum f i + f i ≤ sum f n
sum-within f i zero l = absurd (omega arith)
sum-within f i (suc n) l = ⊎_elim
    (λ (e : i ≡ n). rw e (omega arith))
    (λ (m : i < n). let k : sum f i + f i ≤ sum f n = sum-within f i n m in omega arith)
    (split i n l)

pub sum_same : (f g : ℕ → ℕ) (n : ℕ) → ((k : ℕ) → k < n → f k ≡ g k) → sum f n ≡ sum g n
sum_same f g zero h = refl
sum_same f g (suc n) h = ap₂ (λ (a b : ℕ). a + b) (sum_same f g n (λ k l. h k (omega arith))) (h n (omega arith))

-- one of them is another
pub sum_other : (f g : ℕ → ℕ) (i n : ℕ) → i < n → ((k : ℕ) → (k ≡ i → ⊥) → f k ≡ g k) → sum g n + f i ≡ sum f n + g i
sum_other f g i zero l h = absurd (omega arith)
sum_other f g i (suc n) l h = ⊎_elim
    (λ (e : i ≡ n).
    let s : sum f n ≡ sum g n = sum_same f g n (λ k m. h k (λ q. absurd (omega (arith, q, e, m)))) in
    rw e (omega (arith, s)))
    (λ (m : i < n).
    let s : sum g n + f i ≡ sum f n + g i = sum_other f g i n m h in
    let t : f n ≡ g n = h n (λ q. absurd (omega (arith, q, m))) in
    omega (arith, s, t))
    (split i n l)

pub sum_le : (f g : ℕ → ℕ) (n : ℕ) → ((k : ℕ) → f k ≤ g k) → sum f n ≤ sum g n
sum_le f g zero h = omega arith
sum_le f g (suc n) h = let a = sum_le f g n h in let b = h n in omega arith

pub sum_less : (f g : ℕ → ℕ) (i n : ℕ) → i < n → ((k : ℕ) → f k ≤ g k) → f i < g i → sum f n < sum g n
sum_less f g i zero l h s = absurd (omega arith)
sum_less f g i (suc n) l h s = ⊎_elim
    (λ (e : i ≡ n). let a : sum f n ≤ sum g n = sum_le f g n h in let b : f n < g n = rw e at s in omega (arith, a, b))
    (λ (m : i < n). let a : sum f n < sum g n = sum_less f g i n m h s in let b : f n ≤ g n = h n in omega (arith, a, b))
    (split i n l)

pub sum-next : (f : ℕ → ℕ) (n s : ℕ) → s ≡ sum f n → s + f n ≡ sum f (n + 1)
sum-next f n s e = rw (add-one n) (ap (λ (a : ℕ). a + f n) e)

pub any_none : (f : ℕ → Bool) (k n : ℕ) → k < n → any_below f n ≡ false → f k ≡ false
any_none f k zero l e = absurd (omega arith)
any_none f k (suc n) l e =
    let w = or_false (any_below f n) (f n) e in
    ⊎_elim (λ (q : k ≡ n). rw q w.1) (λ (m : k < n). any_none f k n m w.0) (split k n l)

pub none_any : (f : ℕ → Bool) (n : ℕ) → ((k : ℕ) → k < n → f k ≡ false) → any_below f n ≡ false
none_any f zero h = refl
none_any f (suc n) h = rw (none_any f n (λ k l. h k (omega arith))) (h n (omega arith))

pub some_any : (f : ℕ → Bool) (k n : ℕ) → k < n → f k ≡ true → any_below f n ≡ true
some_any f k zero l e = absurd (omega arith)
some_any f k (suc n) l e = ⊎_elim
    (λ (q : k ≡ n). let u : f n ≡ true = rw q at e in rw u (or_true (any_below f n)))
    (λ (m : k < n). let u : any_below f n ≡ true = some_any f k n m e in rw u)
    (split k n l)

pub any_next : (f : ℕ → Bool) (n : ℕ) → any_below f n ≡ false → f n ≡ false → any_below f (n + 1) ≡ false
any_next f n p q = rw (add-one n, p) q

-- two tests that agree below n
pub any_same : (f g : ℕ → Bool) (n : ℕ) → ((k : ℕ) → k < n → f k ≡ g k) → any_below f n ≡ any_below g n
any_same f g zero h = refl
any_same f g (suc n) h = ap₂ (λ (a b : Bool). a || b) (any_same f g n (λ k l. h k (omega arith))) (h n (omega arith))
