-- Test 4: no offset is asked twice exactly if no PDU asks for one asked before.
use mathlib.Core.Path.{◌≡◌, refl, sym, ap, ◌∙◌}
use mathlib.Core.Bool.{Bool, true, false, ◌||◌, true≢false}
use mathlib.Core.List.{List, [], ◌∷◌, ◌++◌, append_assoc, append-nil}
use mathlib.Core.Logic.{◌⊎◌, inl, inr, ⊎_elim, ◌↔◌}
use Prim.Native.Nat.{ℕ, zero, suc, ◌<◌}
use native.Mathlib.Omega.{arith}
use native.Mathlib.Decide.{dec_lt}
use Rattle.ranges.specs.Range.{Range, In, Covers}
use Rattle.ranges.proofs.Test.{or_false}
use Rattle.ranges.proofs.Covering.{covers_append, append_covers, covers_at, at_covers}
use Rattle.holding.specs.Count.{is_covered}
use Rattle.holding.proofs.Counting.{covered-set}
use Rattle.planning.specs.Plan.{Plan, requests_of, asked_before}
use Rattle.planning.specs.Tests.{some_offset, asks_again, is_repeat}
use Rattle.planning.specs.Fits.{EachOnce}
use Rattle.planning.proofs.Offsets.{no_offset, uncovered}

-- two lists have no offset in common
abbrev pub Apart : List Range → List Range → Type 0
Apart qs rs = (x : ℕ) → Covers x qs → Covers x rs → ⊥

-- a list whose first range is r
tail-once : (r : Range) (rs : List Range) → EachOnce (r ∷ rs) → EachOnce rs
tail-once r rs f x i j u v g h = let e = f x (suc i) (suc j) (omega arith) (omega arith) g h in omega arith

first-apart : (r : Range) (rs : List Range) → EachOnce (r ∷ rs) → (x : ℕ) → In x r → Covers x rs → ⊥
first-apart r rs f x g h = let w = covers_at x rs h in let e = f x zero (suc w.0) (omega arith) (omega (arith, w.1)) g w.2 in omega arith

once_cons : (r : Range) (rs : List Range) → EachOnce rs → ((x : ℕ) → In x r → Covers x rs → ⊥) → EachOnce (r ∷ rs)
once_cons r rs f n x zero zero u v g h = refl
once_cons r rs f n x zero (suc j) u v g h = absurd (n x g (at_covers x rs j (omega arith) h))
once_cons r rs f n x (suc i) zero u v g h = absurd (n x h (at_covers x rs i (omega arith) g))
once_cons r rs f n x (suc i) (suc j) u v g h = ap suc (f x i j (omega arith) (omega arith) g h)

-- one range behind qs
one-more : (x : ℕ) (qs : List Range) (r : Range) → Covers x (qs ++ (r ∷ [])) → Covers x qs ⊎ In x r
one-more x qs r h = ⊎_elim inl (λ k. ⊎_elim inr absurd k) (covers_append x qs (r ∷ []) h)

not_again : (qs rs : List Range) → asks_again qs rs ≡ false → EachOnce rs × Apart qs rs
not_again qs [] e = (λ x i j u v g h. absurd (omega arith), λ x g h. h)
not_again qs (r ∷ rs) e =
    let p = or_false (some_offset (is_covered qs) r) (asks_again (qs ++ (r ∷ [])) rs) e in
    let i = not_again (qs ++ (r ∷ [])) rs p.1 in (
      once_cons r rs i.0 (λ x g h. i.1 x (append_covers x qs (r ∷ []) (inr (inl g))) h),
      λ x g h. ⊎_elim (λ k. clash x g k ((no_offset (is_covered qs) r).0 p.0 x k)) (λ k. i.1 x (append_covers x qs (r ∷ []) (inl g)) k) h,
    )
  where
    clash : (x : ℕ) → Covers x qs → In x r → is_covered qs x ≡ false → ⊥
    clash x g k f = true≢false (sym ((covered-set qs x).1 g) ∙ f)

again_not : (qs rs : List Range) → EachOnce rs → Apart qs rs → asks_again qs rs ≡ false
again_not qs [] f n = refl
again_not qs (r ∷ rs) f n =
    let a = (no_offset (is_covered qs) r).1 (λ x h. uncovered qs x (λ g. n x g (inl h))) in
    let b = again_not (qs ++ (r ∷ [])) rs (tail-once r rs f) (λ x g h. ⊎_elim (λ k. n x k (inr h)) (λ k. first-apart r rs f x k h) (one-more x qs r g)) in
    rw (a, b)

-- no request asks for an offset asked before exactly if no offset is in two of them, or in one of them and in qs
pub once-apart : (qs rs : List Range) → (asks_again qs rs ≡ false) ↔ (EachOnce rs × Apart qs rs)
once-apart qs rs = (not_again qs rs, λ h. again_not qs rs h.0 h.1)

-- requests in two parts
pub again_append : (qs rs ss : List Range) → asks_again qs (rs ++ ss) ≡ (asks_again qs rs || asks_again (qs ++ rs) ss)
again_append qs [] ss = rw (append-nil qs)
again_append qs (r ∷ rs) ss =
    let i = again_append (qs ++ (r ∷ [])) rs ss in
    let e : (qs ++ (r ∷ [])) ++ rs ≡ qs ++ (r ∷ rs) = append_assoc qs (r ∷ []) rs in
    rw (i, e) (assoc (some_offset (is_covered qs) r) (asks_again (qs ++ (r ∷ [])) rs) (asks_again (qs ++ (r ∷ rs)) ss))
  where
    assoc : (a b c : Bool) → (a || (b || c)) ≡ ((a || b) || c)
    assoc true b c = refl
    assoc false b c = refl

repeat_none : (p : Plan) (k : ℕ) → asks_again [] (asked_before p k) ≡ false → (j : ℕ) → j < k → is_repeat p j ≡ false
repeat_none p zero e j h = absurd (omega arith)
repeat_none p (suc k) e j h =
    let q =
    or_false (asks_again [] (asked_before p k)) (asks_again (asked_before p k) (requests_of p k))
    (sym (again_append [] (asked_before p k) (requests_of p k)) ∙ e) in
    go (dec_lt j k) (repeat_none p k q.0 j) q.1
  where
    go : Dec (j < k) → (j < k → is_repeat p j ≡ false) → is_repeat p k ≡ false → is_repeat p j ≡ false
    go (yes l) i q = i l
    go (no l) i q = let s : j ≡ k = omega arith in ap (is_repeat p) s ∙ q

none_repeat : (p : Plan) (k : ℕ) → ((j : ℕ) → j < k → is_repeat p j ≡ false) → asks_again [] (asked_before p k) ≡ false
none_repeat p zero f = refl
none_repeat p (suc k) f = again_append [] (asked_before p k) (requests_of p k) ∙ rw (none_repeat p k (λ j h. f j (omega arith)), f k (omega arith))

-- over the PDUs before PDU k
pub no_repeat : (p : Plan) (k : ℕ) → (asks_again [] (asked_before p k) ≡ false) ↔ ((j : ℕ) → j < k → is_repeat p j ≡ false)
no_repeat p k = (repeat_none p k, none_repeat p k)

pub asked-once : (p : Plan) (k : ℕ) → ((j : ℕ) → j < k → is_repeat p j ≡ false) ↔ EachOnce (asked_before p k)
asked-once p k =
    let n = no_repeat p k in
    let o = once-apart [] (asked_before p k) in
    (λ f. (o.0 (n.1 f)).0, λ f. n.0 (o.1 (f, λ x g h. g)))
