-- A range put into a coalesced list: the list stays coalesced, has exactly the offsets of both, and grows by one range at most.
use mathlib.Core.Path.{◌≡◌, refl, ap}
use mathlib.Core.Bool.{Bool, true, false}
use mathlib.Core.List.Memᴰ
use mathlib.Core.List.{List, [], ◌∷◌, ◌++◌, Memᴰ}
use mathlib.Core.Logic.{◌⊎◌, inl, inr, ⊎_elim, ◌↔◌}
use Prim.Native.Nat.{ℕ, suc, ◌≤◌, ◌<◌}
use native.Mathlib.Omega.{arith}
use native.Mathlib.Decide.{dec_lt}
use lib.ListN.{length}
use lib.Dec.{ltb}
use borrow.Author.Tests.{lt-ltb, le-ltb, ltb-true, ltb-false}
use Rattle.ranges.specs.Range.{Range, range, Above, Coalesced, In, Covers}
use Rattle.ranges.specs.Insert.{joined, absorb, insert, join}
use Rattle.ranges.proofs.Covering.{above-less}

absorb-above : (d : ℕ) (r : Range) (qs : List Range) → d ≤ r.start → r.start < r.end → Above d qs → Above d (absorb r qs)
absorb-above d r [] h k a = (h, k, tt)
absorb-above d r (q ∷ qs) h k a = go (ltb r.end q.start) refl (absorb-above d (joined q r) qs)
  where
    go : (u : Bool) → ltb r.end q.start ≡ u → (d ≤ (joined q r).start → (joined q r).start < (joined q r).end → Above d qs → Above d (absorb (joined q r) qs))
        → Above d (absorb r (q ∷ qs))
    go true f j = rw f (h, k, (ltb-true _ _ f, a.1, a.2))
    go false f j = rw f (j (omega arith) (omega arith) (above-less d (suc q.end) qs (omega arith) a.2))

pub insert-above : (d : ℕ) (r : Range) (qs : List Range) → d ≤ r.start → r.start < r.end → Above d qs → Above d (insert r qs)
insert-above d r [] h k a = (h, k, tt)
insert-above d r (q ∷ qs) h k a = go (ltb q.end r.start) refl (λ u. insert-above (suc q.end) r qs u k a.2)
  where
    go : (t : Bool) → ltb q.end r.start ≡ t → (suc q.end ≤ r.start → Above (suc q.end) (insert r qs)) → Above d (insert r (q ∷ qs))
    go true e i = rw e (a.0, a.1, i (ltb-true _ _ e))
    go false e i = rw e (absorb-above d r (q ∷ qs) h k a)

-- two counted that meet or touch are one
joined_in : (x : ℕ) (q r : Range) → r.start ≤ q.end → q.start ≤ r.end → In x (joined q r) ↔ (In x q ⊎ In x r)
joined_in x q r h k = (λ g. go g (dec_lt x q.start) (dec_lt x q.end), ⊎_elim (λ g. omega arith) (λ g. omega arith))
  where
    go : In x (joined q r) → Dec (x < q.start) → Dec (x < q.end) → In x q ⊎ In x r
    go g (yes u) v = inr (omega arith)
    go g (no u) (yes v) = inl (omega arith)
    go g (no u) (no v) = inr (omega arith)

-- r starts no later than the end of the first
abbrev Meets : Range → List Range → Type 0
Meets r [] = Unit
Meets r (q ∷ qs) = r.start ≤ q.end

absorb_covers : (x d : ℕ) (r : Range) (qs : List Range) → Above d qs → Meets r qs → Covers x (absorb r qs) ↔ (In x r ⊎ Covers x qs)
absorb_covers x d r [] a m = (λ h. h, λ h. h)
absorb_covers x d r (q ∷ qs) a m = go (ltb r.end q.start) refl (absorb_covers x (suc q.end) (joined q r) qs a.2 (next qs a.2))
  where
    next : (l : List Range) → Above (suc q.end) l → Meets (joined q r) l
    next [] s = tt
    next (y ∷ l) s = omega arith

    go : (u : Bool) → ltb r.end q.start ≡ u → (Covers x (absorb (joined q r) qs) ↔ (In x (joined q r) ⊎ Covers x qs))
        → Covers x (absorb r (q ∷ qs)) ↔ (In x r ⊎ (In x q ⊎ Covers x qs))
    go true f j = rw f (λ g. g, λ g. g)
    go false f j =
        let b = joined_in x q r m (ltb-false r.end q.start f) in
        rw f (
          λ g. ⊎_elim (λ y. ⊎_elim (λ z. inr (inl z)) (λ z. inl z) (b.0 y)) (λ y. inr (inr y)) (j.0 g),
          ⊎_elim (λ g. j.1 (inl (b.1 (inr g)))) (⊎_elim (λ g. j.1 (inl (b.1 (inl g)))) (λ g. j.1 (inr g))),
        )

pub insert_covers : (x d : ℕ) (r : Range) (qs : List Range) → Above d qs → Covers x (insert r qs) ↔ (In x r ⊎ Covers x qs)
insert_covers x d r [] a = (λ h. h, λ h. h)
insert_covers x d r (q ∷ qs) a = go (ltb q.end r.start) refl (insert_covers x (suc q.end) r qs a.2)
  where
    go : (t : Bool) → ltb q.end r.start ≡ t → (Covers x (insert r qs) ↔ (In x r ⊎ Covers x qs))
        → Covers x (insert r (q ∷ qs)) ↔ (In x r ⊎ (In x q ⊎ Covers x qs))
    go true e i =
        rw e (
          ⊎_elim (λ g. inr (inl g)) (λ g. ⊎_elim (λ y. inl y) (λ y. inr (inr y)) (i.0 g)),
          ⊎_elim (λ g. inr (i.1 (inl g))) (⊎_elim (λ g. inl g) (λ g. inr (i.1 (inr g)))),
        )
    go false e i = rw e (absorb_covers x d r (q ∷ qs) a (ltb-false _ _ e))

pub join-above : (r : Range) (qs : List Range) → Coalesced qs → Coalesced (join r qs)
join-above r qs a = go (ltb r.start r.end) refl
  where
    go : (t : Bool) → ltb r.start r.end ≡ t → Coalesced (join r qs)
    go true e = rw e (insert-above 0 r qs (omega arith) (ltb-true _ _ e) a)
    go false e = rw e a

pub join_covers : (x : ℕ) (r : Range) (qs : List Range) → Coalesced qs → Covers x (join r qs) ↔ (In x r ⊎ Covers x qs)
join_covers x r qs a = go (ltb r.start r.end) refl
  where
    go : (t : Bool) → ltb r.start r.end ≡ t → Covers x (join r qs) ↔ (In x r ⊎ Covers x qs)
    go true e = rw e (insert_covers x 0 r qs a)
    go false e = let n = ltb-false r.start r.end e in rw e (λ g. inr g, ⊎_elim (λ g. absurd (omega arith)) (λ g. g))

-- how much the list grows
absorb-length : (r : Range) (qs : List Range) → length (absorb r qs) ≤ suc (length qs)
absorb-length r [] = omega arith
absorb-length r (q ∷ qs) = go (ltb r.end q.start) refl (absorb-length (joined q r) qs)
  where
    go : (t : Bool) → ltb r.end q.start ≡ t → length (absorb (joined q r) qs) ≤ suc (length qs) → length (absorb r (q ∷ qs)) ≤ suc (length (q ∷ qs))
    go true e i = rw e (omega arith)
    go false e i = rw e (omega arith)

pub insert-length : (r : Range) (qs : List Range) → length (insert r qs) ≤ suc (length qs)
insert-length r [] = omega arith
insert-length r (q ∷ qs) = go (ltb q.end r.start) refl (insert-length r qs)
  where
    go : (t : Bool) → ltb q.end r.start ≡ t → length (insert r qs) ≤ suc (length qs) → length (insert r (q ∷ qs)) ≤ suc (length (q ∷ qs))
    go true e i = rw e (omega arith)
    go false e i = rw e (absorb-length r (q ∷ qs))

-- where it overlaps or touches a range, the list does not grow
later-apart : (d : ℕ) (r : Range) (qs : List Range) → Above d qs → r.end < d → (q : Range) → Memᴰ q qs → q.start ≤ r.end → ⊥
later-apart d r [] a h q m k = Memᴰ.not-nil m
later-apart d r (p ∷ qs) a h q m k = ⊎_elim (λ e. here e) (λ n. later-apart (suc p.end) r qs a.2 (omega arith) q n k) (Memᴰ.cases_cons m)
  where
    here : q ≡ p → ⊥
    here e = let l : p.start ≤ r.end = rw e at k in omega arith

pub merged-length : (d : ℕ) (r : Range) (qs : List Range) → Above d qs → (q : Range) → Memᴰ q qs → r.start ≤ q.end → q.start ≤ r.end
    → length (insert r qs) ≤ length qs
merged-length d r [] a q m h k = absurd (Memᴰ.not-nil m)
merged-length d r (p ∷ qs) a q m h k = go (ltb p.end r.start) refl (ltb r.end p.start) refl (λ n. merged-length (suc p.end) r qs a.2 q n h k)
  where
    go : (t : Bool) → ltb p.end r.start ≡ t → (u : Bool) → ltb r.end p.start ≡ u → (Memᴰ q qs → length (insert r qs) ≤ length qs)
        → length (insert r (p ∷ qs)) ≤ suc (length qs)
    go true f u g i = rw f (⊎_elim first (λ n. let l = i n in omega arith) (Memᴰ.cases_cons m))
      where
        first : q ≡ p → suc (length (insert r qs)) ≤ suc (length qs)
        first e = let l : r.start ≤ p.end = rw e at h in let w : p.end < r.start = ltb-true _ _ f in absurd (omega arith)
    go false f true g i = absurd (later-apart p.start r (p ∷ qs) (omega arith, a.1, a.2) (ltb-true _ _ g) q m k)
    go false f false g i = rw (f, g) (absorb-length (joined p r) qs)

pub join-length : (r : Range) (qs : List Range) → length (join r qs) ≤ suc (length qs)
join-length r qs = go (ltb r.start r.end) refl
  where
    go : (t : Bool) → ltb r.start r.end ≡ t → length (join r qs) ≤ suc (length qs)
    go true e = rw e (insert-length r qs)
    go false e = rw e (omega arith)

-- a pair with its end at most its start changes nothing
pub join-none : (s e : ℕ) (qs : List Range) → e ≤ s → join (range s e) qs ≡ qs
join-none s e qs h = rw (le-ltb s e h)

last-above : (d : ℕ) (ps : List Range) (q : Range) → Above d (ps ++ (q ∷ [])) → d ≤ q.start
last-above d [] q a = a.0
last-above d (p ∷ ps) q a = let i = last-above (suc p.end) ps q a.2 in omega arith

-- at the end: r joins the last range, or goes behind it
pub insert-over : (d : ℕ) (ps : List Range) (q r : Range) → Above d (ps ++ (q ∷ [])) → q.start ≤ r.start → r.start < r.end → r.start ≤ q.end
    → insert r (ps ++ (q ∷ [])) ≡ ps ++ (joined q r ∷ [])
insert-over d [] q r a h k u = rw (le-ltb q.end r.start u, le-ltb r.end q.start (omega arith))
insert-over d (p ∷ ps) q r a h k u =
    let l = last-above (suc p.end) ps q a.2 in
    rw (lt-ltb p.end r.start (omega arith)) (ap (λ (l : List Range). p ∷ l) (insert-over (suc p.end) ps q r a.2 h k u))

pub insert-behind : (d : ℕ) (ps : List Range) (q r : Range) → Above d (ps ++ (q ∷ [])) → q.start ≤ r.start → q.end < r.start
    → insert r (ps ++ (q ∷ [])) ≡ (ps ++ (q ∷ [])) ++ (r ∷ [])
insert-behind d [] q r a h k = rw (lt-ltb q.end r.start k)
insert-behind d (p ∷ ps) q r a h k =
    let l = last-above (suc p.end) ps q a.2 in
    rw (lt-ltb p.end r.start (omega arith)) (ap (λ (l : List Range). p ∷ l) (insert-behind (suc p.end) ps q r a.2 h k))
