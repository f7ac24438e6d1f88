-- A range put into a coalesced list takes the place of the run of ranges that it overlaps or touches, and is as long as both.
use mathlib.Core.Path.{◌≡◌, refl, sym, ap, ap₂, ◌∙◌}
use mathlib.Core.Bool.{Bool, true, false}
use mathlib.Core.List.{List, [], ◌∷◌, ◌++◌, append_assoc}
use Prim.Native.Nat.{ℕ, zero, suc, ◌+◌, ◌-◌, ◌≤◌, ◌<◌, min, max}
use native.Mathlib.Omega.{arith}
use lib.ListN.{length, take, drop}
use lib.Seq.{drop-drop}
use lib.Dec.{ltb}
use borrow.Author.Tests.{le-leb, lt-leb, ltb-true, ltb-false}
use Rattle.ranges.specs.Range.{Range, range, Above, Coalesced, place, range_at}
use Rattle.ranges.specs.Insert.{joined, absorb, insert}
use Rattle.ranges.specs.Inner.Cut.{from, behind}
use Rattle.ranges.specs.Inner.Moves.{replaced}
use Rattle.ranges.proofs.Halving.{place-within, above_at}
use Rattle.inserting.specs.Inner.{reaching}

-- the end of what a run of k ranges and e make together
abbrev pub high : ℕ → ℕ → List Range → ℕ
high e zero qs = e
high e (suc k) qs = max e (range_at qs k).end

-- a bound below all starts does not change which range is the first to start above e
place-max : (b e d : ℕ) (qs : List Range) → Above d qs → b < d → place (from (suc (max b e))) qs ≡ place (from (suc e)) qs
place-max b e d [] s h = refl
place-max b e d (q ∷ qs) s h = go (ltb e q.start) refl (place-max b e (suc q.end) qs s.2 (omega (arith, s.0, s.1)))
  where
    go : (t : Bool) → ltb e q.start ≡ t → place (from (suc (max b e))) qs ≡ place (from (suc e)) qs → place (from (suc (max b e))) (q ∷ qs) ≡ place (from (suc e)) (q ∷ qs)
    go true f i =
        let k : e < q.start = ltb-true _ _ f in
        rw (le-leb (suc (max b e)) q.start (omega (arith, s.0)), le-leb (suc e) q.start k)
    go false f i =
        let k : q.start ≤ e = ltb-false _ _ f in
        rw (lt-leb (suc (max b e)) q.start (omega arith), lt-leb (suc e) q.start (omega arith)) (ap suc i)

-- the end of q, which lies before the run, is passed by the run's
high-joined : (b e d k : ℕ) (q : Range) (qs : List Range) → b ≡ q.end → Above d qs → b < d → k ≤ length qs → high (max b e) k qs ≡ max e (range_at (q ∷ qs) k).end
high-joined b e d zero q qs f s h l = rw f (omega arith)
high-joined b e d (suc k) q qs f s h l = let u = above_at d qs k s (omega arith) in omega (arith, u.0, u.1)

-- in front of ranges that start at r's start or above
absorb-run : (d : ℕ) (r : Range) (qs : List Range) → Above d qs → r.start ≤ d
    → absorb r qs ≡ range r.start (high r.end (place (from (suc r.end)) qs) qs) ∷ drop (place (from (suc r.end)) qs) qs
absorb-run d r [] s h = refl
absorb-run d r (q ∷ qs) s h = go (ltb r.end q.start) refl (absorb-run (suc q.end) (joined q r) qs s.2 (omega (arith, s.0, s.1)))
  where
    go : (t : Bool) → ltb r.end q.start ≡ t
        → absorb (joined q r) qs
        ≡ range (joined q r).start (high (joined q r).end (place (from (suc (joined q r).end)) qs) qs) ∷ drop (place (from (suc (joined q r).end)) qs) qs
        → absorb r (q ∷ qs)
        ≡ range r.start (high r.end (place (from (suc r.end)) (q ∷ qs)) (q ∷ qs)) ∷ drop (place (from (suc r.end)) (q ∷ qs)) (q ∷ qs)
    go true f i = rw f
    go false f i =
        let k : q.start ≤ r.end = ltb-false _ _ f in
        let m : min q.start r.start ≡ r.start = omega (arith, s.0) in
        let e = place-max q.end r.end (suc q.end) qs s.2 (omega arith) in
        let g = high-joined q.end r.end (suc q.end) (place (from (suc r.end)) qs) q qs refl s.2 (omega arith) (place-within (from (suc r.end)) qs) in
        rw f
        (i
        ∙ ap (λ (k : ℕ). range (joined q r).start (high (joined q r).end k qs) ∷ drop k qs) e
        ∙ ap₂ (λ (s h : ℕ). range s h ∷ drop (place (from (suc r.end)) qs) qs) m g)

-- the range that (s, e) and the run of k ranges from place i on make
abbrev pub made : ℕ → ℕ → ℕ → ℕ → List Range → Range
made s e i zero rs = range s e
made s e i (suc k) rs = range (min s (range_at rs i).start) (max e (range_at rs (i + k)).end)

run : (s e d : ℕ) (rs : List Range) → s < e → Above d rs
    → let i = reaching s rs in
    let k = place (from (suc e)) (drop i rs) in
    insert (range s e) rs ≡ take i rs ++ (made s e i k rs ∷ drop k (drop i rs))
run s e d [] lt a = refl
run s e d (q ∷ rs) lt a = go (ltb q.end s) refl (run s e (suc q.end) rs lt a.2)
  where
    meets : (t : Bool) → ltb e q.start ≡ t → let k = place (from (suc e)) (q ∷ rs) in absorb (range s e) (q ∷ rs) ≡ made s e 0 k (q ∷ rs) ∷ drop k (q ∷ rs)
    meets true f = rw f
    meets false f =
        let k : q.start ≤ e = ltb-false _ _ f in
        let m : min q.start s ≡ min s q.start = omega arith in
        let z : place (from (suc e)) rs ≡ 0 + place (from (suc e)) rs = omega arith in
        let i = absorb-run (suc q.end) (joined q (range s e)) rs a.2 (omega (arith, a.1)) in
        let u = place-max q.end e (suc q.end) rs a.2 (omega arith) in
        let g = high-joined q.end e (suc q.end) (place (from (suc e)) rs) q rs refl a.2 (omega arith) (place-within (from (suc e)) rs) in
        rw f
        (i
        ∙ ap (λ (k : ℕ). range (min q.start s) (high (max q.end e) k rs) ∷ drop k rs) u
        ∙ ap₂ (λ (l h : ℕ). range l h ∷ drop (place (from (suc e)) rs) rs) m g
        ∙ ap (λ (n : ℕ). range (min s q.start) (max e (range_at (q ∷ rs) n).end) ∷ drop (place (from (suc e)) rs) rs) z)

    later : (i k : ℕ) → made s e i k rs ≡ made s e (suc i) k (q ∷ rs)
    later i zero = refl
    later i (suc k) =
        let n : suc (i + k) ≡ suc i + k = omega arith in
        ap (λ (m : ℕ). range (min s (range_at rs i).start) (max e (range_at (q ∷ rs) m).end)) n

    go : (t : Bool) → ltb q.end s ≡ t
        → (let i = reaching s rs in let k = place (from (suc e)) (drop i rs) in insert (range s e) rs ≡ take i rs ++ (made s e i k rs ∷ drop k (drop i rs)))
        → let i = reaching s (q ∷ rs) in
        let k = place (from (suc e)) (drop i (q ∷ rs)) in
        insert (range s e) (q ∷ rs) ≡ take i (q ∷ rs) ++ (made s e i k (q ∷ rs) ∷ drop k (drop i (q ∷ rs)))
    go true f h =
        let n : q.end < s = ltb-true _ _ f in
        let i = reaching s rs in
        let k = place (from (suc e)) (drop i rs) in
        rw (f, lt-leb s q.end n) (ap (λ (l : List Range). q ∷ l) (h ∙ ap (λ (r : Range). take i rs ++ (r ∷ drop k (drop i rs))) (later i k)))
    go false f h = rw (f, le-leb s q.end (ltb-false _ _ f)) (meets (ltb e q.start) refl)

-- the same as a replacement: the ranges from place i up to place j are those that (s, e) overlaps or touches
pub insert-run : (s e i j : ℕ) (rs : List Range) → s < e → Coalesced rs → i ≡ reaching s rs → j ≡ behind i (suc e) rs
    → insert (range s e) rs ≡ replaced i j (made s e i (j - i) rs ∷ []) rs
unfolding replaced
insert-run s e i j rs lt a ei ej =
    let k : ℕ = place (from (suc e)) (drop i rs) in
    let n : j - i ≡ k = omega arith in
    rw (← ei) at (run s e 0 rs lt a)
    ∙ ap (λ (l : List Range). take i rs ++ (made s e i k rs ∷ l)) (drop-drop k i rs ∙ ap (λ (m : ℕ). drop m rs) (sym ej))
    ∙ ap (λ (m : ℕ). take i rs ++ (made s e i m rs ∷ drop j rs)) (sym n)
    ∙ sym (append_assoc (take i rs) (made s e i (j - i) rs ∷ []) (drop j rs))
