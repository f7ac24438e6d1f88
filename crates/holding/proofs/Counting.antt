-- Laws of counting offsets: sets that part a number, sets that have nothing in common, and a coalesced list's offsets as the sum of its
-- ranges' lengths.
use mathlib.Core.Path.{◌≡◌, refl, sym, ap, ◌∙◌}
use mathlib.Core.Bool.{Bool, true, false, ◌||◌, cond, true≢false}
use mathlib.Core.List.{List, [], ◌∷◌}
use mathlib.Core.Logic.{inl, inr, ◌↔◌}
use Prim.Native.Nat.{ℕ, zero, suc, ◌+◌, ◌-◌, ◌≤◌, ◌<◌, min}
use native.Mathlib.Omega.{arith}
use native.Mathlib.Decide.{dec_lt}
use borrow.Author.Tests.{le-leb, lt-ltb, leb-true, leb-false, ltb-true, ltb-false}
use lib.Dec.{leb, ltb}
use Rattle.ranges.specs.Range.{Range, range, In, Covers, Above, last_end}
use Rattle.ranges.proofs.Test.{and_true, or_true}
use Rattle.ranges.proofs.Covering.{above_covers}
use Rattle.ranges.proofs.Last.{ends_le, last-tail}
use Rattle.holding.specs.Count.{count_below, is_in, is_covered, octets_below}

-- the tests say what the sets say
pub in_true : (x : ℕ) (r : Range) → (is_in x r ≡ true) ↔ In x r
in_true x r = (
  λ e. let p = and_true _ _ e in (leb-true _ _ p.0, ltb-true _ _ p.1),
  λ h. rw (le-leb r.start x h.0, lt-ltb x r.end h.1),
)

covered-to : (rs : List Range) (x : ℕ) → is_covered rs x ≡ true → Covers x rs
covered-to [] x e = absurd (true≢false (sym e))
covered-to (r ∷ rs) x e = go (is_in x r) refl (covered-to rs x)
  where
    go : (u : Bool) → is_in x r ≡ u → (is_covered rs x ≡ true → Covers x rs) → Covers x (r ∷ rs)
    go true f i = inl ((in_true x r).0 f)
    go false f i = inr (i (rw f at e))

to-covered : (rs : List Range) (x : ℕ) → Covers x rs → is_covered rs x ≡ true
to-covered [] x h = absurd h
to-covered (r ∷ rs) x (inl h) = rw ((in_true x r).1 h)
to-covered (r ∷ rs) x (inr h) = rw (to-covered rs x h) (or_true (is_in x r))

pub covered-set : (rs : List Range) (x : ℕ) → (is_covered rs x ≡ true) ↔ Covers x rs
covered-set rs x = (covered-to rs x, to-covered rs x)

-- a count is at most the number below which it counts
pub count_most : (t : ℕ → Bool) (n : ℕ) → count_below t n ≤ n
count_most t zero = omega arith
count_most t (suc n) = go (t n) (count_most t n)
  where
    go : (u : Bool) → count_below t n ≤ n → cond u (suc (count_below t n)) (count_below t n) ≤ suc n
    go true i = omega arith
    go false i = omega arith

-- tests that say the same below n count the same
pub count_same : (t u : ℕ → Bool) (n : ℕ) → ((x : ℕ) → x < n → t x ≡ u x) → count_below t n ≡ count_below u n
count_same t u zero f = refl
count_same t u (suc n) f = rw (f n (omega arith), count_same t u n (λ x h. f x (omega arith)))

-- where of three tests the first is met exactly if one of the others is, and never both are, its count is the two's added
pub count_add : (t u v : ℕ → Bool) (n : ℕ) → ((x : ℕ) → x < n → t x ≡ (u x || v x)) → ((x : ℕ) → x < n → u x ≡ true → v x ≡ false)
    → count_below t n ≡ count_below u n + count_below v n
count_add t u v zero f g = refl
count_add t u v (suc n) f g =
    go (u n) (v n) refl refl (count_add t u v n (λ x h. f x (omega arith)) (λ x h. g x (omega arith)))
  where
    go : (a b : Bool) → u n ≡ a → v n ≡ b → count_below t n ≡ count_below u n + count_below v n
        → count_below t (suc n) ≡ count_below u (suc n) + count_below v (suc n)
    go true true k l i = absurd (true≢false (sym l ∙ g n (omega arith) k))
    go true false k l i = rw (f n (omega arith), k, l) (omega arith)
    go false true k l i = rw (f n (omega arith), k, l) (omega arith)
    go false false k l i = rw (f n (omega arith), k, l) (omega arith)

-- all offsets, and none
pub count_all : (t : ℕ → Bool) (n : ℕ) → ((x : ℕ) → x < n → t x ≡ true) → count_below t n ≡ n
count_all t zero f = refl
count_all t (suc n) f = rw (f n (omega arith), count_all t n (λ x h. f x (omega arith)))

pub count_none : (t : ℕ → Bool) (n : ℕ) → ((x : ℕ) → x < n → t x ≡ false) → count_below t n ≡ 0
count_none t zero f = refl
count_none t (suc n) f = rw (f n (omega arith)) (count_none t n (λ x h. f x (omega arith)))

-- where a count is 0, no offset passes
pub none-counted : (t : ℕ → Bool) (n : ℕ) → count_below t n ≡ 0 → (x : ℕ) → x < n → t x ≡ true → ⊥
none-counted t zero e x h k = omega arith
none-counted t (suc n) e x h k = go (t n) refl (dec_lt x n) (none-counted t n)
  where
    go : (u : Bool) → t n ≡ u → Dec (x < n) → (count_below t n ≡ 0 → (y : ℕ) → y < n → t y ≡ true → ⊥) → ⊥
    go true f d i = omega (arith, rw f at e)
    go false f (yes d) i = i (rw f at e) x d k
    go false f (no d) i = let same : x ≡ n = omega arith in true≢false (sym k ∙ ap t same ∙ f)

-- the offsets of one range
count_range : (s e n : ℕ) → s ≤ e → count_below (λ x. is_in x (range s e)) n ≡ min n e - min n s
count_range s e zero h = omega arith
count_range s e (suc n) h = go (leb s n) (ltb n e) refl refl (count_range s e n h)
  where
    go : (a b : Bool) → leb s n ≡ a → ltb n e ≡ b → count_below (λ x. is_in x (range s e)) n ≡ min n e - min n s
        → count_below (λ x. is_in x (range s e)) (suc n) ≡ min (suc n) e - min (suc n) s
    go true true k l i = let u = leb-true s n k in let v = ltb-true n e l in rw (k, l) (omega arith)
    go true false k l i = let u = leb-true s n k in let v = ltb-false n e l in rw (k, l) (omega arith)
    go false b k l i = let u = leb-false s n k in rw k (omega arith)

-- the lengths of some ranges, added up
abbrev pub lengths : List Range → ℕ
lengths [] = zero
lengths (r ∷ rs) = (r.end - r.start) + lengths rs

pub lengths-below : (d n : ℕ) (rs : List Range) → Above d rs → last_end rs ≤ n → octets_below n rs ≡ lengths rs
lengths-below d n [] s h = count_none (is_covered []) n (λ x k. refl)
lengths-below d n (r ∷ rs) s h =
    let i = lengths-below (suc r.end) n rs s.2 (omega (arith, last-tail d r rs s)) in
    let e = ends_le d r rs s in
    let c = count_range r.start r.end n (omega (arith, s.1)) in
    let k = count_add (is_covered (r ∷ rs)) (λ x. is_in x r) (is_covered rs) n (λ x l. refl) (λ x l m. apart x ((in_true x r).0 m) (is_covered rs x) refl) in
    k ∙ omega (arith, i, c, e, s.1)
  where
    apart : (x : ℕ) → In x r → (u : Bool) → is_covered rs x ≡ u → u ≡ false
    apart x m true f = absurd (omega (arith, m.1, above_covers (suc r.end) x rs s.2 ((covered-set rs x).0 f)))
    apart x m false f = refl
