-- A range that starts no earlier than those of a coalesced list joins the last of them or goes behind it.
use mathlib.Core.Path.{◌≡◌, refl, sym, ap, ap₂, ◌∙◌}
use mathlib.Core.Bool.{Bool, true, false}
use mathlib.Core.List.{List, [], ◌∷◌, ◌++◌}
use Prim.Native.Nat.{ℕ, zero, suc, ◌+◌, ◌*◌, ◌≤◌, ◌<◌, max}
use native.Mathlib.Omega.{arith}
use lib.ListN.{length, get_or, set, length-append}
use lib.Dec.{ltb}
use borrow.Author.Tests.{lt-ltb}
use Rattle.ranges.specs.Range.{Range, range, Coalesced}
use Rattle.ranges.specs.Store.{counted, stored}
use Rattle.ranges.proofs.Flat.{at, length-counted, counted-last}
use Rattle.ranges.proofs.Stored.{stored_push, stored_same, stored_last}
use Rattle.ranges.specs.Insert.{joined, absorb, insert, join}
use Rattle.ranges.proofs.Insert.{join-none, insert-over, insert-behind}
use Rattle.coalescing.specs.Inner.{Low}

-- the laws of `Low`
pub low_weak : (s t : ℕ) (qs : List Range) → s ≤ t → Low s qs → Low t qs
low_weak s t [] h l = tt
low_weak s t (q ∷ qs) h l = (omega arith, low_weak s t qs h l.1)

absorb-low : (s : ℕ) (r : Range) (qs : List Range) → r.start ≤ s → Low s qs → Low s (absorb r qs)
absorb-low s r [] h l = (h, tt)
absorb-low s r (q ∷ qs) h l = go (ltb r.end q.start) refl (absorb-low s (joined q r) qs)
  where
    go : (t : Bool) → ltb r.end q.start ≡ t → ((joined q r).start ≤ s → Low s qs → Low s (absorb (joined q r) qs)) → Low s (absorb r (q ∷ qs))
    go true e i = rw e (h, l)
    go false e i = rw e (i (omega arith) l.1)

insert-low : (s : ℕ) (r : Range) (qs : List Range) → r.start ≤ s → Low s qs → Low s (insert r qs)
insert-low s r [] h l = (h, tt)
insert-low s r (q ∷ qs) h l = go (ltb q.end r.start) refl (insert-low s r qs)
  where
    go : (t : Bool) → ltb q.end r.start ≡ t → (r.start ≤ s → Low s qs → Low s (insert r qs)) → Low s (insert r (q ∷ qs))
    go true e i = rw e (l.0, i h l.1)
    go false e i = rw e (absorb-low s r (q ∷ qs) h l)

pub join-low : (r : Range) (qs : List Range) → Low r.start qs → Low r.start (join r qs)
join-low r qs l = go (ltb r.start r.end) refl
  where
    go : (t : Bool) → ltb r.start r.end ≡ t → Low r.start (join r qs)
    go true e = rw e (insert-low r.start r qs (omega arith) l)
    go false e = rw e l

last-low : (s : ℕ) (ps : List Range) (q : Range) → Low s (ps ++ (q ∷ [])) → q.start ≤ s
last-low s [] q l = l.0
last-low s (p ∷ ps) q l = last-low s ps q l.1

same-pair : {a b c d : ℕ} → a ≡ b → c ≡ d → range a c ≡ range b d
same-pair p q = ap₂ range p q

-- what `put_last` finds
pub over_last : (xs : List ℕ) (m p s e : ℕ) → m ≡ suc p → 2 * m ≤ length xs → s < e → Coalesced (counted xs m) → Low s (counted xs m)
    → s ≤ get_or xs (2 * p + 1) 0
    → join (range s e) (counted xs m) ≡ counted xs p ++ (range (get_or xs (2 * p) 0) (max (get_or xs (2 * p + 1) 0) e) ∷ [])
over_last xs m p s e mp h se a l u =
    let w = counted-last xs p (omega arith) in
    let w₂ : counted xs m ≡ counted xs p ++ (at xs p ∷ []) = ap (counted xs) mp ∙ w in
    let k : get_or xs (2 * p) 0 ≤ s = last-low s (counted xs p) (at xs p) (rw w₂ at l) in
    rw (lt-ltb s e se, w₂)
    (insert-over 0 (counted xs p) (at xs p) (range s e) (rw w₂ at a) k se u
    ∙ ap (λ (r : Range). counted xs p ++ (r ∷ [])) (same-pair (omega arith) refl))

pub behind-last : (xs : List ℕ) (m s e : ℕ) → 2 * m ≤ length xs → s < e → Coalesced (counted xs m) → Low s (counted xs m) → ((p : ℕ) → m ≡ suc p → get_or xs (2 * p + 1) 0 < s)
    → join (range s e) (counted xs m) ≡ counted xs m ++ (range s e ∷ [])
behind-last xs zero s e h se a l u = rw (lt-ltb s e se)
behind-last xs (suc p) s e h se a l u =
    let w = counted-last xs p h in
    let k : get_or xs (2 * p) 0 ≤ s = last-low s (counted xs p) (at xs p) (rw w at l) in
    rw (lt-ltb s e se, w) (insert-behind 0 (counted xs p) (at xs p) (range s e) (rw w at a) k (u p refl))

-- the answers of `put_last`
abbrev pub Put : List ℕ → ℕ → ℕ → ℕ → ℕ → List ℕ → Type 0
Put xs m s e r l = (r ≡ length (join (range s e) (counted xs m))) × (l ≡ stored (join (range s e) (counted xs m)) m xs)

unchanged : (xs : List ℕ) (m s e : ℕ) → 2 * m ≤ length xs → join (range s e) (counted xs m) ≡ counted xs m → Put xs m s e m xs
unchanged xs m s e h j = rw j (sym (length-counted xs m h), sym (stored_same xs m h))

pub put-none : (xs : List ℕ) (m s e : ℕ) → 2 * m ≤ length xs → e ≤ s → Put xs m s e m xs
put-none xs m s e h k = unchanged xs m s e h (join-none s e (counted xs m) k)

pub put-joined : (xs : List ℕ) (m p s e : ℕ) → m ≡ suc p → 2 * m ≤ length xs → s < e → Coalesced (counted xs m) → Low s (counted xs m)
    → s ≤ get_or xs (2 * p + 1) 0 → Put xs m s e m (set xs (2 * p + 1) (max (get_or xs (2 * p + 1) 0) e))
put-joined xs m p s e mp h se a l u =
    let t : ℕ = max (get_or xs (2 * p + 1) 0) e in
    let n = length-counted xs p (omega arith) in
    let k = length-append (counted xs p) (range (get_or xs (2 * p) 0) t ∷ []) in
    rw (over_last xs m p s e mp h se a l u) (omega arith, stored_last xs m p t mp h)

pub put-behind : (xs : List ℕ) (m s e : ℕ) → 2 * m + 2 ≤ length xs → s < e → Coalesced (counted xs m) → Low s (counted xs m) → ((p : ℕ) → m ≡ suc p → get_or xs (2 * p + 1) 0 < s)
    → Put xs m s e (m + 1) (set (set xs (2 * m) s) (2 * m + 1) e)
put-behind xs m s e h se a l u =
    let n = length-counted xs m (omega arith) in
    let k = length-append (counted xs m) (range s e ∷ []) in
    rw (behind-last xs m s e (omega arith) se a l u) (omega arith, stored_push xs m s e h)
