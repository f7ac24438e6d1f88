-- What the tests on offsets say of sets.
use mathlib.Core.Path.{◌≡◌, refl, sym, ap, ◌∙◌}
use mathlib.Core.Bool.{Bool, true, false, not, true≢false}
use mathlib.Core.List.Memᴰ
use mathlib.Core.List.{List, [], ◌∷◌, Memᴰ}
use mathlib.Core.Logic.{inl, inr, ⊎_elim, ◌↔◌}
use Prim.Native.Nat.{ℕ, zero, suc, ◌+◌, ◌-◌, ◌≤◌, ◌<◌}
use native.Mathlib.Omega.{arith}
use native.Mathlib.Decide.{dec_lt}
use borrow.Author.Tests.{not-false}
use Rattle.ranges.specs.Range.{Range, In, Covers, some}
use Rattle.ranges.proofs.Test.{or_false}
use Rattle.holding.specs.Count.{is_covered}
use Rattle.holding.proofs.Counting.{covered-set}
use Rattle.planning.specs.Tests.{any_from, some_offset, is_more}

any_none : (t : ℕ → Bool) (s n : ℕ) → any_from t s n ≡ false → (x : ℕ) → s ≤ x → x < s + n → t x ≡ false
any_none t s zero e x a b = absurd (omega arith)
any_none t s (suc n) e x a b = let p = or_false (t (s + n)) (any_from t s n) e in go (dec_lt x (s + n)) p.0 (any_none t s n p.1 x a)
  where
    go : Dec (x < s + n) → t (s + n) ≡ false → (x < s + n → t x ≡ false) → t x ≡ false
    go (yes l) p i = i l
    go (no l) p i = let q : x ≡ s + n = omega arith in ap t q ∙ p

none_any : (t : ℕ → Bool) (s n : ℕ) → ((x : ℕ) → s ≤ x → x < s + n → t x ≡ false) → any_from t s n ≡ false
none_any t s zero f = refl
none_any t s (suc n) f = rw (f (s + n) (omega arith) (omega arith), none_any t s n (λ x a b. f x a (omega arith)))

-- no offset of the range passes
pub no_offset : (t : ℕ → Bool) (r : Range) → (some_offset t r ≡ false) ↔ ((x : ℕ) → In x r → t x ≡ false)
no_offset t r = (
  λ e x h. any_none t r.start (r.end - r.start) e x h.0 (omega (arith, h.0, h.1)),
  λ f. none_any t r.start (r.end - r.start) (λ x a b. f x (a, omega arith)),
)

-- an offset of the range passes
any_some : (t : ℕ → Bool) (s n : ℕ) → any_from t s n ≡ true → (x : ℕ) × (s ≤ x) × (x < s + n) × (t x ≡ true)
any_some t s zero e = absurd (true≢false (sym e))
any_some t s (suc n) e = go (t (s + n)) refl (any_some t s n)
  where
    go : (u : Bool) → t (s + n) ≡ u → (any_from t s n ≡ true → (x : ℕ) × (s ≤ x) × (x < s + n) × (t x ≡ true)) → (x : ℕ) × (s ≤ x) × (x < s + suc n) × (t x ≡ true)
    go true f i = (s + n, omega arith, omega arith, f)
    go false f i = let w = i (rw f at e) in (w.0, w.1, omega (arith, w.2), w.3)

pub an_offset : (t : ℕ → Bool) (r : Range) → some_offset t r ≡ true → (x : ℕ) × In x r × (t x ≡ true)
an_offset t r e = let w = any_some t r.start (r.end - r.start) e in (w.0, (w.1, omega (arith, w.1, w.2)), w.3)

-- none of the ranges passes
pub none-some : (t : Range → Bool) (rs : List Range) → (some t rs ≡ false) ↔ ((r : Range) → Memᴰ r rs → t r ≡ false)
none-some t [] = (λ e r m. absurd (Memᴰ.not-nil m), λ f. refl)
none-some t (q ∷ rs) =
    let i = none-some t rs in (
      λ e r m. let p = or_false (t q) (some t rs) e in ⊎_elim (λ h. ap t h ∙ p.0) (λ h. i.0 p.1 r h) (Memᴰ.cases_cons m),
      λ f. rw (f q (Memᴰ.head refl), i.1 (λ r m. f r (Memᴰ.tail m))),
    )

-- a test that is not met
pub uncovered : (qs : List Range) (x : ℕ) → (Covers x qs → ⊥) → is_covered qs x ≡ false
uncovered qs x n = go (is_covered qs x) refl
  where
    go : (u : Bool) → is_covered qs x ≡ u → u ≡ false
    go true e = absurd (n ((covered-set qs x).0 e))
    go false e = refl

-- every offset of the ranges rs is in one of qs
no_more : (qs rs : List Range) → is_more qs rs ≡ false → (x : ℕ) → Covers x rs → Covers x qs
no_more qs [] e x h = absurd h
no_more qs (r ∷ rs) e x (inl h) =
    let p = or_false (some_offset (λ y. not (is_covered qs y)) r) (is_more qs rs) e in
    (covered-set qs x).0 (not-false _ ((no_offset (λ y. not (is_covered qs y)) r).0 p.0 x h))
no_more qs (r ∷ rs) e x (inr h) = no_more qs rs (or_false (some_offset (λ y. not (is_covered qs y)) r) (is_more qs rs) e).1 x h

more-none : (qs rs : List Range) → ((x : ℕ) → Covers x rs → Covers x qs) → is_more qs rs ≡ false
more-none qs [] f = refl
more-none qs (r ∷ rs) f =
    let p = (no_offset (λ y. not (is_covered qs y)) r).1 (λ x h. ap not ((covered-set qs x).1 (f x (inl h)))) in
    rw (p, more-none qs rs (λ x h. f x (inr h)))

pub none_more : (qs rs : List Range) → (is_more qs rs ≡ false) ↔ ((x : ℕ) → Covers x rs → Covers x qs)
none_more qs rs = (no_more qs rs, more-none qs rs)

-- or some offset of rs is in none of qs
pub some_more : (qs rs : List Range) → is_more qs rs ≡ true → (x : ℕ) × Covers x rs × (Covers x qs → ⊥)
some_more qs [] e = absurd (true≢false (sym e))
some_more qs (r ∷ rs) e = go (some_offset (λ y. not (is_covered qs y)) r) refl (some_more qs rs)
  where
    go : (u : Bool) → some_offset (λ y. not (is_covered qs y)) r ≡ u → (is_more qs rs ≡ true → (x : ℕ) × Covers x rs × (Covers x qs → ⊥))
        → (x : ℕ) × Covers x (r ∷ rs) × (Covers x qs → ⊥)
    go true f i =
        let w = an_offset (λ y. not (is_covered qs y)) r f in
        (w.0, inl w.1, λ h. true≢false (sym w.2 ∙ ap not ((covered-set qs w.0).1 h)))
    go false f i = let w = i (rw f at e) in (w.0, inr w.1, w.2)
