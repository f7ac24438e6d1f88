-- Test 4 by numbers: requests repeat no offset exactly if they add as many octets to those asked for before as they have.
use mathlib.Core.Path.{◌≡◌, refl, sym, ap, ◌∙◌}
use mathlib.Core.Bool.{Bool, true, false, ◌&&◌, ◌||◌, not, true≢false}
use mathlib.Core.List.{List, [], ◌∷◌, ◌++◌, append_assoc, append-nil}
use Prim.Native.Nat.{ℕ, zero, suc, ◌+◌, ◌-◌, ◌≤◌, ◌<◌}
use native.Mathlib.Omega.{arith}
use native.Mathlib.Decide.{dec_lt}
use lib.Dec.{eqb}
use borrow.Author.Tests.{eq-eqb, ne_eqb}
use Rattle.ranges.specs.Range.{Range}
use Rattle.ranges.proofs.Test.{or_false, or-none, and_none}
use Rattle.holding.specs.Count.{count_below, is_in, is_covered, octets_below}
use Rattle.holding.proofs.Counting.{in_true, count_same, count_none, none-counted, lengths, lengths-below}
use Rattle.planning.specs.Tests.{some_offset, asks_again}
use Rattle.planning.proofs.Offsets.{no_offset, an_offset}

-- two tests: those that pass either, and those that pass both
count_meet : (u v : ℕ → Bool) (n : ℕ) → count_below u n + count_below v n ≡ count_below (λ x. u x || v x) n + count_below (λ x. u x && v x) n
count_meet u v zero = refl
count_meet u v (suc n) = go (u n) (v n) refl refl (count_meet u v n)
  where
    go : (a b : Bool) → u n ≡ a → v n ≡ b → count_below u n + count_below v n ≡ count_below (λ x. u x || v x) n + count_below (λ x. u x && v x) n
        → count_below u (suc n) + count_below v (suc n) ≡ count_below (λ x. u x || v x) (suc n) + count_below (λ x. u x && v x) (suc n)
    go true true k l i = rw (k, l) (omega arith)
    go true false k l i = rw (k, l) (omega arith)
    go false true k l i = rw (k, l) (omega arith)
    go false false k l i = rw (k, l) (omega arith)

covered_snoc : (qs : List Range) (r : Range) (x : ℕ) → is_covered (qs ++ (r ∷ [])) x ≡ (is_covered qs x || is_in x r)
covered_snoc [] r x = or-none (is_in x r)
covered_snoc (q ∷ qs) r x = ap (λ (b : Bool). is_in x q || b) (covered_snoc qs r x) ∙ assoc (is_in x q) (is_covered qs x) (is_in x r)
  where
    assoc : (a b c : Bool) → (a || (b || c)) ≡ ((a || b) || c)
    assoc true b c = refl
    assoc false b c = refl

-- a range within M has its length in octets
own-octets : (M : ℕ) (r : Range) → r.end ≤ M → count_below (λ x. is_in x r) M ≡ r.end - r.start
own-octets M r h = go (dec_lt r.start r.end)
  where
    go : Dec (r.start < r.end) → count_below (λ x. is_in x r) M ≡ r.end - r.start
    go (yes l) = count_same (λ x. is_in x r) (is_covered (r ∷ [])) M (λ x k. sym (or-none (is_in x r))) ∙ lengths-below 0 M (r ∷ []) (omega arith, l, tt) h ∙ omega arith
    go (no l) = count_none (λ x. is_in x r) M (λ x k. out x (is_in x r) refl) ∙ omega arith
      where
        out : (x : ℕ) (u : Bool) → is_in x r ≡ u → u ≡ false
        out x true e = let i = (in_true x r).0 e in absurd (omega (arith, i.0, i.1))
        out x false e = refl

module _ (M : ℕ) where
  abbrev both : List Range → Range → ℕ
  both qs r = count_below (λ x. is_covered qs x && is_in x r) M

  one-adds : (qs : List Range) (r : Range) → r.end ≤ M → octets_below M qs + (r.end - r.start) ≡ octets_below M (qs ++ (r ∷ [])) + both qs r
  one-adds qs r h =
      ap (λ (n : ℕ). octets_below M qs + n) (sym (own-octets M r h))
      ∙ count_meet (is_covered qs) (λ x. is_in x r) M
      ∙ ap (λ (n : ℕ). n + both qs r) (count_same (λ x. is_covered qs x || is_in x r) (is_covered (qs ++ (r ∷ []))) M (λ x k. sym (covered_snoc qs r x)))

  none_both : (qs : List Range) (r : Range) → some_offset (is_covered qs) r ≡ false → both qs r ≡ 0
  none_both qs r e = count_none (λ x. is_covered qs x && is_in x r) M (λ x k. go x (is_in x r) refl)
    where
      go : (x : ℕ) (u : Bool) → is_in x r ≡ u → (is_covered qs x && is_in x r) ≡ false
      go x true f = rw ((no_offset (is_covered qs) r).0 e x ((in_true x r).0 f))
      go x false f = rw f (and_none (is_covered qs x))

  some-both : (qs : List Range) (r : Range) → r.end ≤ M → some_offset (is_covered qs) r ≡ true → both qs r ≡ 0 → ⊥
  some-both qs r h e z =
      let w = an_offset (is_covered qs) r e in
      none-counted (λ x. is_covered qs x && is_in x r) M z w.0 (omega (arith, w.1.1)) (rw w.2 ((in_true w.0 r).1 w.1))

  -- the ranges end within M
  abbrev pub Below : List Range → Type 0
  Below [] = Unit
  Below (r ∷ rs) = (r.end ≤ M) × Below rs

  move : (qs : List Range) (r : Range) (rs : List Range) → octets_below M ((qs ++ (r ∷ [])) ++ rs) ≡ octets_below M (qs ++ (r ∷ rs))
  move qs r rs = ap (octets_below M) (append_assoc qs (r ∷ []) rs)

  pub adds_most : (qs rs : List Range) → Below rs → octets_below M (qs ++ rs) ≤ octets_below M qs + lengths rs
  adds_most qs [] b = rw (append-nil qs) (omega arith)
  adds_most qs (r ∷ rs) b =
      let i = adds_most (qs ++ (r ∷ [])) rs b.1 in
      let o = one-adds qs r b.0 in
      omega (arith, i, o, move qs r rs)

  pub adds_all : (qs rs : List Range) → Below rs → asks_again qs rs ≡ false → octets_below M (qs ++ rs) ≡ octets_below M qs + lengths rs
  adds_all qs [] b e = rw (append-nil qs) (omega arith)
  adds_all qs (r ∷ rs) b e =
      let p = or_false (some_offset (is_covered qs) r) (asks_again (qs ++ (r ∷ [])) rs) e in
      let i = adds_all (qs ++ (r ∷ [])) rs b.1 p.1 in
      let o = one-adds qs r b.0 in
      omega (arith, i, o, none_both qs r p.0, move qs r rs)

  pub adds_less : (qs rs : List Range) → Below rs → asks_again qs rs ≡ true → octets_below M (qs ++ rs) < octets_below M qs + lengths rs
  adds_less qs [] b e = absurd (true≢false (sym e))
  adds_less qs (r ∷ rs) b e = go (some_offset (is_covered qs) r) refl (adds_less (qs ++ (r ∷ [])) rs b.1)
    where
      go : (u : Bool) → some_offset (is_covered qs) r ≡ u
          → (asks_again (qs ++ (r ∷ [])) rs ≡ true → octets_below M ((qs ++ (r ∷ [])) ++ rs) < octets_below M (qs ++ (r ∷ [])) + lengths rs)
          → octets_below M (qs ++ (r ∷ rs)) < octets_below M qs + lengths (r ∷ rs)
      go true f i =
          let o = one-adds qs r b.0 in
          let z = some-both qs r b.0 f in
          let k = adds_most (qs ++ (r ∷ [])) rs b.1 in
          let y : 0 < both qs r = positive (both qs r) z in
          omega (arith, o, k, y, move qs r rs)
        where
          positive : (n : ℕ) → (n ≡ 0 → ⊥) → 0 < n
          positive zero z = absurd (z refl)
          positive (suc n) z = omega arith
      go false f i =
          let o = one-adds qs r b.0 in
          let k = i (rw f at e) in
          omega (arith, o, k, none_both qs r f, move qs r rs)

  -- so the test is one of numbers
  pub again_by_octets : (qs rs : List Range) → Below rs → asks_again qs rs ≡ not (eqb (octets_below M qs + lengths rs) (octets_below M (qs ++ rs)))
  again_by_octets qs rs b = go (asks_again qs rs) refl
    where
      go : (u : Bool) → asks_again qs rs ≡ u → u ≡ not (eqb (octets_below M qs + lengths rs) (octets_below M (qs ++ rs)))
      go true e = let l = adds_less qs rs b e in sym (ap not (ne_eqb (octets_below M qs + lengths rs) (octets_below M (qs ++ rs)) (λ k. omega (arith, l, k))))
      go false e = sym (ap not (eq-eqb (octets_below M qs + lengths rs) (octets_below M (qs ++ rs)) (sym (adds_all qs rs b e))))
