-- Ranges of the list that come whole, in any order and repeated, are never refused: each leaves the list or is gone already, so there is
-- always room. For a record with metadata and size known.
use mathlib.Core.Path.{◌≡◌, refl, sym, ap, ◌∙◌}
use mathlib.Core.Bool.{true, false, not}
use mathlib.Core.List.Memᴰ
use mathlib.Core.List.{List, [], ◌∷◌, Memᴰ}
use mathlib.Core.Logic.{◌⊎◌, inl, inr}
use Prim.Native.Nat.{ℕ, suc, ◌+◌, ◌*◌, ◌≤◌, ◌<◌, min, max}
use native.Mathlib.Omega.{arith}
use lib.ListN.{length}
use lib.Dec.{eqb}
use borrow.Author.Tests.{le-ltb}
use Rattle.ranges.specs.Range.{Range, range, Above, Coalesced, last_end}
use Rattle.ranges.specs.Store.{capacity, limit_of, most_pairs}
use Rattle.ranges.specs.declared.Width.{Width}
use Rattle.ranges.specs.declared.Width.TheVariants.{Wide, Narrow}
use Rattle.ranges.specs.Without.{pieces, without}
use Rattle.ranges.proofs.Flat.{length-counted}
use Rattle.ranges.proofs.Last.{ends_le, last-tail}
use Rattle.ranges.proofs.Stored.{counted-stored}
use Rattle.ranges.proofs.Without.{part_none, part-one}
use Rattle.outcomes.specs.Outcome.{Outcome}
use Rattle.reception.specs.Data.{largest_number, is_too_long, is_past_size, is_full, data_leaves}
use Rattle.reception.specs.History.{Event, Data, Metadata, Eof, State, fresh, is_accepted, step, run, metadata_came, told_size, ranges_of}
use Rattle.reception.proofs.Records.{step_mark, mark_metadata, size_of, told-size}
use Rattle.reception.proofs.Keeping.{kept-within}
use Rattle.reception.proofs.Standing.{standing-passed}
use Rattle.reception.proofs.Histories.{Holds, history, holds}
use Rattle.reception.proofs.Answered.{size-is-progress}
use Rattle.reception.proofs.data.Answers.{data-taken}
use Rattle.holding.specs.Whole.{AllWhole, NoneRefused}
use Rattle.holding.proofs.Sizes.{sized_of, run_sized}

-- a range that is (a, b) or has nothing in common with it
abbrev Apart : ℕ → ℕ → Range → Type 0
Apart a b q = ((q.start ≡ a) × (q.end ≡ b)) ⊎ ((q.end ≤ a) ⊎ (b ≤ q.start))

-- of such a range all is left, or nothing
pieces-apart : (a b : ℕ) (q : Range) → a < b → q.start < q.end → Apart a b q → (pieces a b q ≡ []) ⊎ (pieces a b q ≡ q ∷ [])
pieces-apart a b q lt n (inl e) =
    inl (rw (part_none q.start (min q.end a) (omega (arith, e.0)), part_none (max q.start b) q.end (omega (arith, e.1))))
pieces-apart a b q lt n (inr (inl e)) =
    let k : min q.end a ≡ q.end = omega arith in
    inr (rw (k, part-one q.start q.end n, part_none (max q.start b) q.end (omega arith)))
pieces-apart a b q lt n (inr (inr e)) =
    let k : max q.start b ≡ q.start = omega arith in
    inr (rw (part_none q.start (min q.end a) (omega arith), k, part-one q.start q.end n))

-- each range of a list has a property
abbrev Each : (Range → Type 0) → List Range → Type 0
Each Q [] = Unit
Each Q (r ∷ rs) = Q r × Each Q rs

each-is : (Q R : Range → Type 0) (rs : List Range) → ((r : Range) → Q r → R r) → Each Q rs → Each R rs
each-is Q R [] f e = tt
each-is Q R (r ∷ rs) f e = (f r e.0, each-is Q R rs f e.1)

-- where each range is (a, b) or apart from it, none is added, and those left are some of them
without-apart : (Q : Range → Type 0) (a b : ℕ) (rs : List Range) → a < b → Each (λ q. (q.start < q.end) × Apart a b q) rs → Each Q rs
    → (length (without a b rs) ≤ length rs) × Each Q (without a b rs)
without-apart Q a b [] lt h e = (omega arith, tt)
without-apart Q a b (r ∷ rs) lt h e = go (pieces-apart a b r lt h.0.0 h.0.1) (without-apart Q a b rs lt h.1 e.1)
  where
    go : (pieces a b r ≡ []) ⊎ (pieces a b r ≡ r ∷ []) → (length (without a b rs) ≤ length rs) × Each Q (without a b rs)
        → (length (without a b (r ∷ rs)) ≤ suc (length rs)) × Each Q (without a b (r ∷ rs))
    go (inl k) i = let l = i.0 in rw k (omega arith, i.1)
    go (inr k) i = let l = i.0 in rw k (omega arith, (e.0, i.1))

-- members of a coalesced list: each lies between its bound and the last end
member_low : (d : ℕ) (q : Range) (rs : List Range) → Above d rs → Memᴰ q rs → (d ≤ q.start) × (q.start < q.end) × (q.end ≤ last_end rs)
member_low d q [] s m = absurd (Memᴰ.not-nil m)
member_low d q (r ∷ rs) s m = go (Memᴰ.cases_cons m) (member_low (suc r.end) q rs s.2)
  where
    go : (q ≡ r) ⊎ Memᴰ q rs → (Memᴰ q rs → (suc r.end ≤ q.start) × (q.start < q.end) × (q.end ≤ last_end rs))
        → (d ≤ q.start) × (q.start < q.end) × (q.end ≤ last_end (r ∷ rs))
    go (inl e) i = rw e (s.0, s.1, ends_le d r rs s)
    go (inr n) i = let w = i n in let t = last-tail d r rs s in (omega (arith, s.0, s.1, w.0), w.1, omega (arith, t, w.2))

-- two of them are the same or apart
members_apart : (d : ℕ) (r q : Range) (rs : List Range) → Above d rs → Memᴰ r rs → Memᴰ q rs → Apart r.start r.end q
members_apart d r q [] s m n = absurd (Memᴰ.not-nil m)
members_apart d r q (h ∷ rs) s m n = go (Memᴰ.cases_cons m) (Memᴰ.cases_cons n) (members_apart (suc h.end) r q rs s.2)
  where
    go : (r ≡ h) ⊎ Memᴰ r rs → (q ≡ h) ⊎ Memᴰ q rs → (Memᴰ r rs → Memᴰ q rs → Apart r.start r.end q) → Apart r.start r.end q
    go (inl a) (inl b) i = inl (ap (λ (x : Range). x.start) (b ∙ sym a), ap (λ (x : Range). x.end) (b ∙ sym a))
    go (inl a) (inr b) i = let w = member_low (suc h.end) q rs s.2 b in let e = ap (λ (x : Range). x.end) a in inr (inr (omega (arith, w.0, e)))
    go (inr a) (inl b) i = let w = member_low (suc h.end) r rs s.2 a in let e = ap (λ (x : Range). x.end) b in inr (inl (omega (arith, w.0, e)))
    go (inr a) (inr b) i = i a b

-- no width's limit is above 2^64 - 1
limit-most : (w : Width) → limit_of w ≤ largest_number
limit-most Wide = omega arith
limit-most Narrow = omega arith

-- the reception s holds some of the ranges qs, which end at the size z or before
module _ (qs : List Range) (whole : Coalesced qs) (z : ℕ) (ends : last_end qs ≤ z) (N : ℕ) where
  -- one of them comes whole
  module _ (s : State) (P : ℕ → Type 0) (n : ℕ) (h : Holds s N P n) (known : s.rec.missing ≡ false) (told : size_of s.rec ≡ z ∷ [])
      (some : Each (λ q. Memᴰ q qs) (ranges_of s)) (o k : ℕ) (one : Memᴰ (range o (o + k)) qs) where
    lies : (o < o + k) × (o + k ≤ z)
    lies = let w = member_low 0 (range o (o + k)) qs whole one in (w.1, omega (arith, w.2, ends))

    at_size : s.rec.progress ≡ z
    at_size = let w = sized_of s.rec z told in h.standing.told w.0 ∙ w.1

    leaves : data_leaves s.rec s.list o k ≡ without o (o + k) (ranges_of s)
    leaves = rw known (kept-within s.rec.progress o (o + k) (ranges_of s) lies.0 h.standing.whole h.standing.last (omega (arith, lies, at_size)))

    each : Each (λ q. (q.start < q.end) × Apart o (o + k) q) (ranges_of s)
    each =
        each-is (λ q. Memᴰ q qs) (λ q. (q.start < q.end) × Apart o (o + k) q) (ranges_of s)
        (λ q m. ((member_low 0 q qs whole m).1, members_apart 0 (range o (o + k)) q qs whole one m)) some

    left : (length (without o (o + k) (ranges_of s)) ≤ length (ranges_of s)) × Each (λ q. Memᴰ q qs) (without o (o + k) (ranges_of s))
    left = without-apart (λ q. Memᴰ q qs) o (o + k) (ranges_of s) lies.0 each some

    taken-whole : is_accepted s (Data o k) ≡ true
    taken-whole =
        let g = h.standing in
        let w = sized_of s.rec z told in
        let c = length-counted s.list s.rec.count (omega (arith, g.room, g.size)) in
        let m : s.rec.progress ≤ limit_of s.rec.width = g.small in
        let small : o + k ≤ limit_of s.rec.width = omega (arith, m, at_size, lies.1) in
        let short : is_too_long o k ≡ false = rw (le-ltb largest_number (o + k) (omega (arith, small, limit-most s.rec.width))) in
        let within : is_past_size s.rec (o + k) ≡ false = rw (w.0, w.1, le-ltb z (o + k) lies.1) in
        let free : is_full (capacity s.list) (data_leaves s.rec s.list o k) ≡ false =
        rw (leaves, le-ltb (capacity s.list) (length (without o (o + k) (ranges_of s))) (omega (arith, left.0, c, g.room, g.size))) in
        ap (λ (p : Outcome). eqb p.number 0) (sym (data-taken s.rec s.list o k (standing-passed s N g) (λ e. omega (arith, lies.0, e)) short small within free))
        ∙ rw known

    now : ranges_of (step s (Data o k)) ≡ without o (o + k) (ranges_of s)
    now = rw taken-whole (counted-stored (data_leaves s.rec s.list o k) s.rec.count s.list) ∙ leaves

  -- any number of them, in any order and repeated
  all-taken : (ds : List Event) (s : State) (P : ℕ → Type 0) (n : ℕ) → Holds s N P n → s.rec.missing ≡ false → size_of s.rec ≡ z ∷ []
      → Each (λ q. Memᴰ q qs) (ranges_of s) → AllWhole qs ds → NoneRefused s ds
  all-taken [] s P n h known told some w = tt
  all-taken (Data o k ∷ ds) s P n h known told some w =
      let a = taken-whole s P n h known told some o k w.0 in
      let e = now s P n h known told some o k w.0 in
      let l = (left s P n h known told some o k w.0).1 in
      (a, all-taken ds (step s (Data o k)) _ _ (history (Data o k ∷ []) s N P n true known h) (step_mark s (Data o k) true known) (run_sized (Data o k ∷ []) s z told) (rw e l) w.1)
  all-taken (Metadata ∷ ds) s P n h known told some w = absurd w.0
  all-taken (Eof y ∷ ds) s P n h known told some w = absurd w.0

-- each range of a list is one of it
each-own : (rs qs : List Range) → ((q : Range) → Memᴰ q rs → Memᴰ q qs) → Each (λ q. Memᴰ q qs) rs
each-own [] qs f = tt
each-own (r ∷ rs) qs f = (f r (Memᴰ.head refl), each-own rs qs (λ q m. f q (Memᴰ.tail m)))

-- after any history with metadata and size known: ranges of the list that come whole are never refused
pub whole-taken : (w : Width) (xs : List ℕ) (N : ℕ) → length xs ≡ 2 * N → N ≤ most_pairs → (es : List Event)
    → metadata_came (fresh w xs) es ≡ true → (z : ℕ) → told_size (fresh w xs) es ≡ z ∷ []
    → (ds : List Event) → AllWhole (ranges_of (run (fresh w xs) es)) ds → NoneRefused (run (fresh w xs) es) ds
whole-taken w xs N size few es known z told ds a =
    let h = holds w xs N size few es in
    let s = run (fresh w xs) es in
    let p = size-is-progress w xs N size few es z told in
    all-taken (ranges_of s) h.standing.whole z (omega (arith, h.standing.last, p)) N ds s _ _ h
    (mark_metadata w xs es ∙ ap not known) (told-size w xs es ∙ told) (each-own (ranges_of s) (ranges_of s) (λ q m. m)) a
