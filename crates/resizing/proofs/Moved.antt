-- The ranges of one transfer changed in the pool's list, with those behind them moved: down, where there are fewer, and the slots given up
-- cleared; or up by one before the change.
use Rattle.std.specs.Prelude.{Option, Some, None}
use mathlib.Core.Path.{◌≡◌, refl, sym, ap, ap₂, ◌∙◌}
use mathlib.Core.List.{List, [], ◌++◌, append_assoc, append-nil}
use Prim.Native.Nat.{ℕ, suc, ◌+◌, ◌*◌, ◌-◌, ◌≤◌, ◌<◌}
use native.Mathlib.Omega.{arith}
use mathlib.Core.Bool.{true, false}
use lib.Dec.{ltb}
use borrow.Author.Tests.{ltb-true, ltb-false, le-ltb}
use lib.ListN.{length, take, drop, replicate, length-append, length-drop, length-replicate, take-append-drop, drop_of_length-le}
use lib.Seq.{take_at, drop_at, drop-drop, take-append-le, drop-append-le, take-take, take_all, drop-append-add, length-take-le}
use Rattle.ranges.specs.Range.{Range}
use Rattle.ranges.specs.Store.{pairs, flat, counted, capacity, stored}
use Rattle.ranges.specs.Inner.Cut.{cut_answer, cut_list}
use Rattle.ranges.specs.Inner.Moves.{over, shifted, replaced}
use Rattle.ranges.proofs.Flat.{length-flat}
use Rattle.ranges.proofs.Cutting.{cut_told, full_told}
use Rattle.ranges.proofs.Stored.{stored_grown, stored_shrunk}
use Rattle.ranges.proofs.Replaced.{flat-replaced, length-replaced}
use Rattle.pooling.specs.Share.{part}
use Rattle.resizing.specs.Inner.{with_part, cut_at, closed_up}

-- a window of a list does not see what stands behind it
window : (a n : ℕ) (p q r : List ℕ) → a + n ≤ length p → take n (drop a (p ++ q)) ≡ take n (drop a (p ++ r))
window a n p q r h = inner q ∙ sym (inner r)
  where
    inner : (q : List ℕ) → take n (drop a (p ++ q)) ≡ take n (drop a p)
    inner q =
        let d : length (drop a p) ≡ length p - a = length-drop a p in
        ap (λ (l : List ℕ). take n l) (drop-append-le a p q (omega arith)) ∙ take-append-le n (drop a p) q (omega (arith, d))

-- the part of the m ranges from place `at` on
pub held-size : (xs : List ℕ) (at m : ℕ) → 2 * (at + m) ≤ length xs → length (part (2 * at) (2 * (at + m)) xs) ≡ 2 * m
held-size xs at m h =
    let d : length (drop (2 * at) xs) ≡ length xs - 2 * at = length-drop (2 * at) xs in
    length-take-le (2 * (at + m) - 2 * at) (drop (2 * at) xs) (omega (arith, d)) ∙ omega arith

module _ (xs : List ℕ) (at m total : ℕ) (qs : List Range) (mt : at + m ≤ total) (h : 2 * total ≤ length xs) where
  -- all ranges, with qs in the place of the m
  abbrev all : List Range
  all = replaced at (at + m) qs (counted xs total)

  abbrev front : List ℕ
  front = take (2 * at) xs

  abbrev back : List ℕ
  back = drop (2 * (at + m)) xs

  abbrev behind : ℕ
  behind = 2 * (total - (at + m))

  flat-all : flat all ≡ (front ++ flat qs) ++ take behind back
  flat-all = flat-replaced xs total at (at + m) qs (omega arith) mt h

  length-all : length all + (at + m) ≡ total + length qs + at
  length-all = length-replaced xs total at (at + m) qs (omega arith) mt h

  length_front : length front ≡ 2 * at
  length_front = length-take-le (2 * at) xs (omega arith)

  head-length : length (front ++ flat qs) ≡ 2 * (at + length qs)
  head-length =
      let a : length (front ++ flat qs) ≡ length front + length (flat qs) = length-append front (flat qs) in
      let b = length-flat qs in
      let c = length_front in
      omega (arith, a, b, c)

  -- down
  module _ (few : length qs ≤ m) where
    abbrev zeros : List ℕ
    zeros = replicate (2 * m - 2 * length qs) 0

    part-size : length (part (2 * at) (2 * (at + m)) xs) ≡ 2 * m
    part-size = held-size xs at m (omega arith)

    -- the part with qs in it
    written : (l : List ℕ) → l ≡ with_part (2 * at) (2 * (at + m)) (stored qs m (part (2 * at) (2 * (at + m)) xs)) xs → l ≡ ((front ++ flat qs) ++ zeros) ++ back
    written l e =
        let ys : List ℕ = part (2 * at) (2 * (at + m)) xs in
        let k : 2 * (at + m) - 2 * at ≡ 2 * m = omega arith in
        let j : 2 * at + 2 * m ≡ 2 * (at + m) = omega arith in
        let n : drop (2 * m) ys ≡ [] = drop_of_length-le ys {i = 2 * m} (omega (arith, part-size)) in
        let s : stored qs m ys ≡ flat qs ++ zeros = stored_shrunk qs m ys few ∙ ap (λ (l : List ℕ). flat qs ++ (zeros ++ l)) n ∙ ap (λ (l : List ℕ). flat qs ++ l) (append-nil zeros) in
        let b : drop (2 * (at + m) - 2 * at) (drop (2 * at) xs) ≡ back = ap (λ (i : ℕ). drop i (drop (2 * at) xs)) k ∙ drop-drop (2 * m) (2 * at) xs ∙ ap (λ (i : ℕ). drop i xs) j in
        e
        ∙ ap₂ (λ (u v : List ℕ). front ++ (u ++ v)) s b
        ∙ sym (append_assoc front (flat qs ++ zeros) back)
        ∙ ap (λ (l : List ℕ). l ++ back) (sym (append_assoc front (flat qs) zeros))

    pub moved_down : (l₁ l₂ l₃ : List ℕ)
        → l₁ ≡ with_part (2 * at) (2 * (at + m)) (stored qs m (part (2 * at) (2 * (at + m)) xs)) xs
        → l₂ ≡ shifted l₁ (2 * (at + m)) (2 * (at + length qs)) behind
        → l₃ ≡ over l₂ (2 * (total - (m - length qs))) (2 * total - 2 * (total - (m - length qs))) (replicate (2 * total - 2 * (total - (m - length qs))) 0)
        → l₃ ≡ stored all total xs
    unfolding over
    moved_down l₁ l₂ l₃ e₁ e₂ e₃ =
        let to : ℕ = 2 * (at + length qs) in
        let pos : ℕ = 2 * (total - (m - length qs)) in
        let z : ℕ = 2 * total - pos in
        let w : l₁ ≡ ((front ++ flat qs) ++ zeros) ++ back = written l₁ e₁ in
        let v : l₁ ≡ (front ++ flat qs) ++ (zeros ++ back) = w ∙ append_assoc (front ++ flat qs) zeros back in
        let hl = head-length in
        let al = length-all in
        let zl : length zeros ≡ 2 * m - 2 * length qs = length-replicate (2 * m - 2 * length qs) 0 in
        let hz : length ((front ++ flat qs) ++ zeros) ≡ 2 * (at + m) = length-append (front ++ flat qs) zeros ∙ omega (arith, hl, zl) in
        let a : take to l₁ ≡ front ++ flat qs = ap (λ (l : List ℕ). take to l) v ∙ take_at (front ++ flat qs) (zeros ++ back) to hl in
        let b : drop (2 * (at + m)) l₁ ≡ back = ap (λ (l : List ℕ). drop (2 * (at + m)) l) w ∙ drop_at ((front ++ flat qs) ++ zeros) back (2 * (at + m)) hz in
        let c : l₂ ≡ flat all ++ drop (to + behind) l₁ =
        e₂ ∙ ap₂ (λ (p q : List ℕ). (p ++ take behind q) ++ drop (to + behind) l₁) a b ∙ ap (λ (l : List ℕ). l ++ drop (to + behind) l₁) (sym flat-all) in
        let fl : length (flat all) ≡ pos = length-flat all ∙ omega (arith, al) in
        let q : to + behind + z ≡ 2 * (at + m) + behind = omega arith in
        let r : 2 * (at + m) + behind ≡ 2 * total = omega arith in
        let d : drop (pos + z) l₂ ≡ drop (2 * total) xs =
        ap (λ (l : List ℕ). drop (pos + z) l) c ∙ ap (λ (i : ℕ). drop (i + z) (flat all ++ drop (to + behind) l₁)) (sym fl)
        ∙ drop-append-add (flat all) (drop (to + behind) l₁) z ∙ drop-drop z (to + behind) l₁
        ∙ ap (λ (i : ℕ). drop i l₁) q ∙ sym (drop-drop behind (2 * (at + m)) l₁) ∙ ap (λ (l : List ℕ). drop behind l) b ∙ drop-drop behind (2 * (at + m)) xs ∙ ap (λ (i : ℕ). drop i xs) r in
        let t : take pos l₂ ≡ flat all = ap (λ (l : List ℕ). take pos l) c ∙ take_at (flat all) (drop (to + behind) l₁) pos fl in
        let o : length (replicate {A = ℕ} z 0) ≡ z = length-replicate z 0 in
        let y : z ≡ 2 * total - 2 * length all = omega (arith, al) in
        e₃
        ∙ ap₂ (λ (u v : List ℕ). (u ++ take z (replicate z 0)) ++ v) t d
        ∙ ap (λ (u : List ℕ). (flat all ++ u) ++ drop (2 * total) xs) (take_all z (replicate z 0) (omega (arith, o)))
        ∙ append_assoc (flat all) (replicate z 0) (drop (2 * total) xs)
        ∙ ap (λ (i : ℕ). flat all ++ (replicate i 0 ++ drop (2 * total) xs)) y
        ∙ sym (stored_shrunk all total xs (omega (arith, al)))

  -- up
  module _ (room : 2 * (total + 1) ≤ length xs) where
    abbrev made : List ℕ
    made = shifted xs (2 * (at + m)) (2 * (at + m + 1)) behind

    abbrev gap : List ℕ
    gap = part (2 * at) (2 * (at + (m + 1))) made

    -- the list with room made
    made-is : made ≡ take (2 * (at + m + 1)) xs ++ (take behind back ++ drop (2 * (total + 1)) xs)
    unfolding over
    made-is =
        let k : 2 * (at + m + 1) + behind ≡ 2 * (total + 1) = omega arith in
        ap (λ (i : ℕ). (take (2 * (at + m + 1)) xs ++ take behind back) ++ drop i xs) k
        ∙ append_assoc (take (2 * (at + m + 1)) xs) (take behind back) (drop (2 * (total + 1)) xs)

    first-length : length (take (2 * (at + m + 1)) xs) ≡ 2 * (at + m + 1)
    first-length = length-take-le (2 * (at + m + 1)) xs (omega arith)

    pub gap_length : length gap ≡ 2 * (m + 1)
    gap_length =
        let f = first-length in
        let a : length made ≡ length (take (2 * (at + m + 1)) xs) + length (take behind back ++ drop (2 * (total + 1)) xs) =
        ap length made-is ∙ length-append (take (2 * (at + m + 1)) xs) (take behind back ++ drop (2 * (total + 1)) xs) in
        let d : length (drop (2 * at) made) ≡ length made - 2 * at = length-drop (2 * at) made in
        length-take-le (2 * (at + (m + 1)) - 2 * at) (drop (2 * at) made) (omega (arith, d, a, f)) ∙ omega arith

    -- the m ranges stand in it as before
    pub gap-ranges : counted gap m ≡ counted (part (2 * at) (2 * (at + m)) xs) m
    gap-ranges =
        let f = first-length in
        let k : 2 * (at + (m + 1)) - 2 * at ≡ 2 * (m + 1) = omega arith in
        let j : 2 * (at + m) - 2 * at ≡ 2 * m = omega arith in
        ap pairs
        (take-take (2 * m) (2 * (at + (m + 1)) - 2 * at) (drop (2 * at) made) (omega arith)
        ∙ ap (λ (l : List ℕ). take (2 * m) (drop (2 * at) l)) made-is
        ∙ window (2 * at) (2 * m) (take (2 * (at + m + 1)) xs) (take behind back ++ drop (2 * (total + 1)) xs) (drop (2 * (at + m + 1)) xs) (omega (arith, f))
        ∙ ap (λ (l : List ℕ). take (2 * m) (drop (2 * at) l)) (take-append-drop (2 * (at + m + 1)) xs)
        ∙ sym (take-take (2 * m) (2 * (at + m) - 2 * at) (drop (2 * at) xs) (omega arith)))

    pub moved_up : (l : List ℕ) → length qs ≡ suc m → l ≡ with_part (2 * at) (2 * (at + (m + 1))) (stored qs m gap) made → l ≡ stored all total xs
    moved_up l n e =
        let f = first-length in
        let g = gap_length in
        let al = length-all in
        let k : 2 * (at + (m + 1)) - 2 * at ≡ 2 * (m + 1) = omega arith in
        let j : 2 * at + 2 * (m + 1) ≡ 2 * (at + m + 1) = omega arith in
        let r : drop (2 * length qs) gap ≡ [] = drop_of_length-le gap {i = 2 * length qs} (omega (arith, g, n)) in
        let s : stored qs m gap ≡ flat qs = stored_grown qs m gap (omega (arith, n)) ∙ ap (λ (u : List ℕ). flat qs ++ u) r ∙ append-nil (flat qs) in
        let a : take (2 * at) made ≡ front =
        ap (λ (u : List ℕ). take (2 * at) u) made-is
        ∙ take-append-le (2 * at) (take (2 * (at + m + 1)) xs) (take behind back ++ drop (2 * (total + 1)) xs) (omega (arith, f))
        ∙ take-take (2 * at) (2 * (at + m + 1)) xs (omega arith) in
        let b : drop (2 * (at + (m + 1)) - 2 * at) (drop (2 * at) made) ≡ take behind back ++ drop (2 * (total + 1)) xs =
        ap (λ (i : ℕ). drop i (drop (2 * at) made)) k ∙ drop-drop (2 * (m + 1)) (2 * at) made ∙ ap (λ (i : ℕ). drop i made) j
        ∙ ap (λ (u : List ℕ). drop (2 * (at + m + 1)) u) made-is
        ∙ drop_at (take (2 * (at + m + 1)) xs) (take behind back ++ drop (2 * (total + 1)) xs) (2 * (at + m + 1)) f in
        let q : 2 * (total + 1) ≡ 2 * length all = omega (arith, al, n) in
        e
        ∙ ap₂ (λ (u v : List ℕ). take (2 * at) made ++ (u ++ v)) s b
        ∙ ap (λ (u : List ℕ). u ++ (flat qs ++ (take behind back ++ drop (2 * (total + 1)) xs))) a
        ∙ sym (append_assoc front (flat qs) (take behind back ++ drop (2 * (total + 1)) xs))
        ∙ sym (append_assoc (front ++ flat qs) (take behind back) (drop (2 * (total + 1)) xs))
        ∙ ap₂ (λ (u : List ℕ) (i : ℕ). u ++ drop i xs) (sym flat-all) q
        ∙ sym (stored_grown all total xs (omega (arith, al, n)))

    -- the event in the room made
    abbrev gap_in : List ℕ → List ℕ
    gap_in l = part (2 * at) (2 * (at + (m + 1))) l

    pub gap-kept : (l : List ℕ) → l ≡ made → (length (gap_in l) ≡ 2 * (m + 1)) × (counted (gap_in l) m ≡ counted (part (2 * at) (2 * (at + m)) xs) m)
    gap-kept l e = (ap (λ (l : List ℕ). length (gap_in l)) e ∙ gap_length, ap (λ (l : List ℕ). counted (gap_in l) m) e ∙ gap-ranges)

    pub grown : (f : List Range → List Range) (l ys : List ℕ) (r : Option ℕ) → qs ≡ f (counted (part (2 * at) (2 * (at + m)) xs) m) → length qs ≡ suc m → l ≡ made
        → r ≡ cut_answer (capacity (gap_in l)) (f (counted (gap_in l) m)) → ys ≡ cut_list (capacity (gap_in l)) (f (counted (gap_in l) m)) m (gap_in l)
        → (r ≡ cut_answer (suc m) qs) × (with_part (2 * at) (2 * (at + (m + 1))) ys l ≡ cut_at (suc m) at m total qs xs)
    grown f l ys r q n e a b =
        let g = gap_length in
        let c : capacity gap ≡ suc m = omega (arith, g) in
        let k : ltb (suc m) (length qs) ≡ false = le-ltb (suc m) (length qs) (omega (arith, n)) in
        let w : f (counted gap m) ≡ qs = ap f gap-ranges ∙ sym q in
        let u : r ≡ cut_answer (suc m) qs = a ∙ ap (λ (l : List ℕ). cut_answer (capacity (gap_in l)) (f (counted (gap_in l) m))) e ∙ ap₂ (λ (i : ℕ) (rs : List Range). cut_answer i rs) c w in
        let v : ys ≡ stored qs m gap =
        b ∙ ap (λ (l : List ℕ). cut_list (capacity (gap_in l)) (f (counted (gap_in l) m)) m (gap_in l)) e ∙ ap₂ (λ (i : ℕ) (rs : List Range). cut_list i rs m gap) c w ∙ rw k in (
          u,
          ap₂ (λ (u v : List ℕ). with_part (2 * at) (2 * (at + (m + 1))) u v) v e
              ∙ moved_up (with_part (2 * at) (2 * (at + (m + 1))) (stored qs m gap) made) n refl
              ∙ rw k,
        )

  -- the event in the slots held
  abbrev held : List ℕ
  held = part (2 * at) (2 * (at + m)) xs

  held-capacity : capacity held ≡ m
  held-capacity = let s : length held ≡ 2 * m = held-size xs at m (omega arith) in omega (arith, s)

  -- too few
  pub held_full : (ys : List ℕ) → None ≡ cut_answer (capacity held) qs → ys ≡ cut_list (capacity held) qs m held → (m < length qs) × (with_part (2 * at) (2 * (at + m)) ys xs ≡ xs)
  held_full ys a b =
      let t : ltb (capacity held) (length qs) ≡ true = full_told (capacity held) qs a in
      let k : capacity held < length qs = ltb-true _ _ t in
      let v : ys ≡ held = b ∙ rw t in (
        omega (arith, k, held-capacity),
        ap (λ (u : List ℕ). with_part (2 * at) (2 * (at + m)) u xs) v
            ∙ ap (λ (u : List ℕ). take (2 * at) xs ++ u) (take-append-drop (2 * (at + m) - 2 * at) (drop (2 * at) xs))
            ∙ take-append-drop (2 * at) xs,
      )

  -- enough
  pub held-left : (ys : List ℕ) (n : ℕ) → Some n ≡ cut_answer (capacity held) qs → ys ≡ cut_list (capacity held) qs m held → (n ≡ length qs) × ((length qs ≤ m) × (ys ≡ stored qs m held))
  held-left ys n a b =
      let t = cut_told (capacity held) n qs a in
      let k : length qs ≤ capacity held = ltb-false _ _ t.0 in
      (t.1, (omega (arith, k, held-capacity), b ∙ rw t.0))

  pub held-ends : (ys l : List ℕ) (n room : ℕ) → m ≤ room → n ≡ length qs → length qs ≤ m → ys ≡ stored qs m held
      → l ≡ closed_up at m n total (with_part (2 * at) (2 * (at + m)) ys xs)
      → (Some n ≡ cut_answer room qs) × (l ≡ cut_at room at m total qs xs)
  held-ends ys l n room h e s v d =
      let k : ltb room (length qs) ≡ false = le-ltb room (length qs) (omega (arith, h, s)) in
      let l₁ : List ℕ = with_part (2 * at) (2 * (at + m)) (stored qs m held) xs in (
        rw k (ap Some e),
        d
            ∙ ap₂ (λ (u : List ℕ) (n : ℕ). closed_up at m n total (with_part (2 * at) (2 * (at + m)) u xs)) v e
            ∙ moved_down s l₁ (shifted l₁ (2 * (at + m)) (2 * (at + length qs)) behind) _ refl refl refl
            ∙ rw k,
      )
