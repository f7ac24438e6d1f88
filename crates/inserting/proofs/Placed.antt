-- What `first_reaching` and `near_above` find, and what `insert` answers and leaves at each of its ends.
use Rattle.std.specs.Prelude.{Option, Some, None}
use mathlib.Core.Path.{◌≡◌, refl, sym, ap, ap₂, ◌∙◌}
use mathlib.Core.Bool.{Bool, true, false}
use mathlib.Core.List.{List, [], ◌∷◌, ◌++◌}
use Prim.Native.Nat.{ℕ, zero, suc, ◌+◌, ◌*◌, ◌-◌, ◌≤◌, ◌<◌, min, max}
use native.Mathlib.Omega.{arith}
use lib.ListN.{length, drop, set, length-append}
use lib.Seq.{drop-drop}
use borrow.Author.Tests.{lt-ltb, le-ltb}
use Rattle.ranges.specs.Range.{Range, range, Above, Coalesced, place, last_end}
use Rattle.ranges.specs.Store.{counted, stored, start_at, end_at}
use Rattle.ranges.specs.Insert.{insert}
use Rattle.ranges.specs.Inner.Cut.{from, first, behind, cut_answer, cut_list}
use Rattle.ranges.specs.Inner.Moves.{replaced}
use Rattle.ranges.proofs.Flat.{at as range_of, get_or-counted, length-counted, counted-last}
use Rattle.ranges.proofs.Last.{ends_le, last-tail}
use Rattle.ranges.proofs.Halving.{above_at}
use Rattle.ranges.proofs.Insert.{insert-over}
use Rattle.ranges.proofs.Stored.{stored_push, stored_last}
use Rattle.ranges.proofs.Replaced.{length-replaced}
use Rattle.inserting.specs.Inner.{reaching}
use Rattle.inserting.proofs.Run.{made, insert-run}

-- the ranges that end above a reach the next offset
pub reaching-next : (s : ℕ) (rs : List Range) → 0 < s → first (s - 1) rs ≡ reaching s rs
reaching-next s rs h = let e : suc (s - 1) ≡ s = omega arith in ap (λ (k : ℕ). reaching k rs) e

-- the place of the first that passes, looked for from a later place that is not behind it
place-drop : (t : Range → Bool) (d : ℕ) (rs : List Range) → d ≤ place t rs → d + place t (drop d rs) ≡ place t rs
place-drop t zero rs h = omega arith
place-drop t (suc d) [] h = absurd (omega arith)
place-drop t (suc d) (r ∷ rs) h = go (t r) refl (place-drop t d rs)
  where
    go : (u : Bool) → t r ≡ u → (d ≤ place t rs → d + place t (drop d rs) ≡ place t rs) → suc d + place t (drop d rs) ≡ place t (r ∷ rs)
    go true e i = let k = rw e at h in absurd (omega (arith, k))
    go false e i = let k = rw e at h in let j = i (omega (arith, k)) in rw e (omega (arith, j))

pub behind-later : (i k b : ℕ) (rs : List Range) → i ≤ k → k ≤ behind i b rs → behind k b rs ≡ behind i b rs
behind-later i k b rs h l =
    let e : i + (k - i) ≡ k = omega arith in
    let p = place-drop (from b) (k - i) (drop i rs) (omega arith) in
    let q : drop (k - i) (drop i rs) ≡ drop k rs = drop-drop (k - i) i rs ∙ ap (λ (m : ℕ). drop m rs) e in
    let w = rw q at p in
    omega (arith, w)

-- what `insert` finds: the ranges from place i up to place j are those that (s, e) overlaps or touches
pub record InsertRun (xs : List ℕ) (n s e room i j : ℕ) : Type 0 where
  pub counts : n ≤ room
  pub lies : 2 * room ≤ length xs
  pub ordered : s < e
  pub whole : Coalesced (counted xs n)
  pub start : i ≡ reaching s (counted xs n)
  pub end : j ≡ behind i (suc e) (counted xs n)
  pub before : i ≤ j
  pub inside : j ≤ n

module _ (xs : List ℕ) (n s e room i j : ℕ) (run : InsertRun xs n s e room i j) where
  abbrev rs : List Range
  rs = counted xs n

  abbrev pub Answers : Option ℕ → List ℕ → Type 0
  Answers r l = (r ≡ cut_answer room (insert (range s e) rs)) × (l ≡ cut_list room (insert (range s e) rs) n xs)

  fits : 2 * n ≤ length xs
  fits = omega (arith, run.counts, run.lies)

  -- where the run is (s, e) and those ranges in one
  puts : (lo hi : ℕ) → made s e i (j - i) rs ≡ range lo hi
      → (insert (range s e) rs ≡ replaced i j (range lo hi ∷ []) rs) × (length (replaced i j (range lo hi ∷ []) rs) + j ≡ n + 1 + i)
  puts lo hi m = (
    insert-run s e i j rs run.ordered run.whole run.start run.end ∙ ap (λ (r : Range). replaced i j (r ∷ []) rs) m,
    length-replaced xs n i j (range lo hi ∷ []) run.before run.inside fits,
  )

  pub alone : i ≡ j → made s e i (j - i) rs ≡ range s e
  alone h = let z : j - i ≡ 0 = omega arith in rw z

  pub joins : i < j → made s e i (j - i) rs ≡ range (min s (start_at xs i)) (max e (end_at xs (j - 1)))
  joins h =
      let z : j - i ≡ suc (j - 1 - i) = omega arith in
      let k : i + (j - 1 - i) ≡ j - 1 = omega arith in
      let f = get_or-counted xs n i (omega (arith, run.inside)) fits in
      let g = get_or-counted xs n (j - 1) (omega (arith, run.inside)) fits in
      rw (z, k, f, g)

  pub in_room : (lo hi m : ℕ) (l : List ℕ) → made s e i (j - i) rs ≡ range lo hi → n + 1 + i ≤ room + j
      → m ≡ length (replaced i j (range lo hi ∷ []) rs) → l ≡ stored (replaced i j (range lo hi ∷ []) rs) n xs → Answers (Some m) l
  in_room lo hi m l q c u v =
      let w = puts lo hi q in
      rw (w.0, le-ltb room (length (replaced i j (range lo hi ∷ []) rs)) (omega (arith, w.1))) (ap Some u, v)

  pub no_room : i ≡ j → n ≡ room → Answers None xs
  no_room h c =
      let w = puts s e (alone h) in
      rw (w.0, lt-ltb room (length (replaced i j (range s e ∷ []) rs)) (omega (arith, w.1))) (refl, refl)

-- behind all ranges
behind-all : (s e d : ℕ) (rs : List Range) → Above d rs → last_end rs < s → insert (range s e) rs ≡ rs ++ (range s e ∷ [])
behind-all s e d [] a h = refl
behind-all s e d (r ∷ rs) a h =
    let k = ends_le d r rs a in
    let l = last-tail d r rs a in
    rw (lt-ltb r.end s (omega arith)) (ap (λ (qs : List Range). r ∷ qs) (behind-all s e (suc r.end) rs a.2 (omega arith)))

module _ (xs : List ℕ) (n s e room : ℕ) (counts : n ≤ room) (lies : 2 * room ≤ length xs) where
  abbrev new : List Range
  new = counted xs n ++ (range s e ∷ [])

  length-new : length new ≡ n + 1
  length-new = length-append (counted xs n) (range s e ∷ []) ∙ ap (λ (k : ℕ). k + 1) (length-counted xs n (omega arith))

  -- one range more, for which there is no room or room
  pub more_full : insert (range s e) (counted xs n) ≡ new → n ≡ room
      → (None ≡ cut_answer room (insert (range s e) (counted xs n))) × (xs ≡ cut_list room (insert (range s e) (counted xs n)) n xs)
  more_full q h = rw (q, lt-ltb room (length new) (omega (arith, length-new))) (refl, refl)

  pub more-put : insert (range s e) (counted xs n) ≡ new → n < room
      → (Some (n + 1) ≡ cut_answer room (insert (range s e) (counted xs n)))
      × (set (set xs (2 * n) s) (2 * n + 1) e ≡ cut_list room (insert (range s e) (counted xs n)) n xs)
  more-put q h = rw (q, le-ltb room (length new) (omega (arith, length-new))) (ap Some (sym length-new), stored_push xs n s e (omega arith))

  -- where there is none, it is the first
  pub more-first : n ≡ 0 → insert (range s e) (counted xs n) ≡ new
  more-first h = rw h

  module _ (whole : Coalesced (counted xs n)) where
    pub more-late : last_end (counted xs n) < s → insert (range s e) (counted xs n) ≡ new
    more-late late = behind-all s e 0 (counted xs n) whole late

    -- where it starts at the end of the last, which is at place p, it makes that one longer
    longer : (p : ℕ) → n ≡ suc p → s < e → end_at xs p ≡ s → insert (range s e) (counted xs n) ≡ counted xs p ++ (range (start_at xs p) e ∷ [])
    longer p np lt ends =
        let w : counted xs n ≡ counted xs p ++ (range_of xs p ∷ []) = ap (counted xs) np ∙ counted-last xs p (omega arith) in
        let g = get_or-counted xs n p (omega arith) (omega arith) in
        let l = length-counted xs n (omega arith) in
        let o = rw g at (above_at 0 (counted xs n) p whole (omega arith)) in
        rw w
        (insert-over 0 (counted xs p) (range_of xs p) (range s e) (rw w at whole) (omega (arith, o.1)) lt (omega arith)
        ∙ ap (λ (r : Range). counted xs p ++ (r ∷ [])) (ap₂ range (omega (arith, o.1)) (omega arith)))

    pub more-longer : (p : ℕ) → n ≡ suc p → s < e → end_at xs p ≡ s
        → (Some n ≡ cut_answer room (insert (range s e) (counted xs n))) × (set xs (2 * p + 1) e ≡ cut_list room (insert (range s e) (counted xs n)) n xs)
    more-longer p np lt ends =
        let m : List Range = counted xs p ++ (range (start_at xs p) e ∷ []) in
        let k : length m ≡ n = length-append (counted xs p) (range (start_at xs p) e ∷ []) ∙ ap (λ (j : ℕ). j + 1) (length-counted xs p (omega arith)) ∙ omega arith in
        rw (longer p np lt ends, le-ltb room (length m) (omega (arith, k))) (ap Some (sym k), stored_last xs n p e np (omega arith))
