-- What the checks 23 and 10 leave known in numbers; where the parts of the transfers lie; and the list that a transfer has for an event.
use mathlib.Core.Path.{◌≡◌, refl, sym, ap, ◌∙◌}
use mathlib.Core.Bool.{Bool, true, false, ◌&&◌, ◌||◌, cond, true≢false}
use mathlib.Core.List.{List}
use mathlib.Core.Logic.{◌⊎◌, inl, inr, ◌↔◌}
use Prim.Native.Nat.{ℕ, suc, ◌+◌, ◌*◌, ◌-◌, ◌%◌, ◌≤◌, ◌<◌}
use native.Mathlib.Omega.{arith}
use native.Mathlib.Decide.{dec_lt}
use lib.Dec.{leb, ltb, eqb}
use lib.ListN.{length, take, drop, length-append, length-drop}
use lib.Seq.{take_at, take_all, length-take-le}
use borrow.Author.Tests.{eqb-false, ltb-false, leb-false, ne_eqb, le-ltb, le-leb, eq-eqb, lt-ltb, ltb-true, leb-true, eqb-true}
use Rattle.ranges.specs.Store.{pairs, counted, capacity, most_pairs, most_numbers, limit_of, is_bad_store, any_above}
use Rattle.ranges.proofs.Test.{or_false, or_true, and_true}
use Rattle.ranges.proofs.Flat.{length-counted}
use Rattle.reception.specs.declared.Reception.{Reception}
use Rattle.reception.specs.Record.{is_bad_record, record_checks}
use Rattle.pooling.specs.declared.Pool.{Pool}
use Rattle.pooling.specs.Pool.{most_transfers, record_at, count_at, floor_at, limit_at, sum, any_below, is_floor_above, is_bad_settings, claim_at, claimed, NoRoom, is_no_room}
use Rattle.pooling.specs.Share.{base, total, own_part, own_ranges, is_unknown, is_past_limit, is_bad_share, is_bad_transfer, free_slot, own_list}
use Rattle.pooling.proofs.Sums.{sum-within, sum_le, sum_less, any_none, none_any}

-- the settings are good
pub record Settled (p : Pool) (S : ℕ) : Type 0 where
  pub few : p.used ≤ most_transfers
  pub floors : (k : ℕ) → k < p.used → floor_at p k ≤ limit_at p k
  pub within : sum (floor_at p) p.used ≤ S

pub settled : (p : Pool) (S : ℕ) → is_bad_settings p S ≡ false → Settled p S
unfolding is_bad_settings
settled p S e =
    let a = or_false _ _ e in
    let b = or_false (any_below (is_floor_above p) p.used) _ a.1 in
    record {
      few = ltb-false _ _ a.0;
      floors = λ k l. ltb-false _ _ (any_none (is_floor_above p) k p.used l b.0);
      within = ltb-false _ _ b.1;
    }

-- and the transfer is one of them
pub known : (p : Pool) (xs : List ℕ) (i : ℕ) → is_unknown p xs i ≡ false → Settled p (capacity xs) × (i < p.used)
known p xs i e =
    let a = or_false (is_bad_settings p (capacity xs)) (leb p.used i) e in
    (settled p (capacity xs) a.0, leb-false _ _ a.1)

-- the counts are within the limits and the slots
pub record Shared (p : Pool) (xs : List ℕ) : Type 0 where
  pub size : length xs ≡ 2 * capacity xs
  pub most : capacity xs ≤ most_pairs
  pub limits : (k : ℕ) → k < p.used → count_at p k ≤ limit_at p k
  pub claims : claimed p ≤ capacity xs

pub shared : (p : Pool) (xs : List ℕ) → is_bad_share p xs ≡ false → Shared p xs
unfolding is_bad_share
shared p xs e =
    let a = or_false _ _ e in
    let b = or_false (ltb most_pairs (capacity xs)) _ a.1 in
    let d = or_false (any_below (is_past_limit p) p.used) _ b.1 in
    let o : length xs % 2 ≡ 1 → ⊥ = eqb-false _ _ a.0 in
    record {
      size = omega (arith, o);
      most = ltb-false _ _ b.0;
      limits = λ k l. ltb-false _ _ (any_none (is_past_limit p) k p.used l d.0);
      claims = ltb-false _ _ d.1;
    }

-- and back
pub share-passed : (p : Pool) (xs : List ℕ) → Shared p xs → is_bad_share p xs ≡ false
unfolding is_bad_share
share-passed p xs s =
    let z = s.size in
    let o : length xs % 2 ≡ 1 → ⊥ = λ e. omega (arith, z, e) in
    let n : any_below (is_past_limit p) p.used ≡ false = none_any (is_past_limit p) p.used (λ k l. le-ltb _ _ (s.limits k l)) in
    rw (ne_eqb (length xs % 2) 1 o, le-ltb most_pairs (capacity xs) s.most, n) (le-ltb (capacity xs) (claimed p) s.claims)

-- what a transfer holds is no more than its claim
count_claim : (p : Pool) (k : ℕ) → count_at p k ≤ claim_at p k
count_claim p k = omega arith

pub total-claimed : (p : Pool) → total p ≤ claimed p
total-claimed p = sum_le (count_at p) (claim_at p) p.used (count_claim p)

pub floors-claimed : (p : Pool) → sum (floor_at p) p.used ≤ claimed p
floors-claimed p = sum_le (floor_at p) (claim_at p) p.used (λ k. omega arith)

-- the part of a transfer ends inside the ranges of all
pub part-ends : (p : Pool) (i : ℕ) → i < p.used → base p i + count_at p i ≤ total p
part-ends p i l = sum-within (count_at p) i p.used l

-- the test of the room rule
pub no_room : (p : Pool) (S i : ℕ) → (is_no_room p S i ≡ true) ↔ NoRoom p S i
unfolding is_no_room
no_room p S i = (λ e. go (ltb (limit_at p i) (count_at p i + 1)) refl e, back)
  where
    go : (t : Bool) → ltb (limit_at p i) (count_at p i + 1) ≡ t → (t || (leb (floor_at p i) (count_at p i) && eqb (claimed p) S)) ≡ true → NoRoom p S i
    go true f e = inl (ltb-true _ _ f)
    go false f e = let w = and_true (leb (floor_at p i) (count_at p i)) (eqb (claimed p) S) e in inr (leb-true _ _ w.0, eqb-true _ _ w.1)

    back : NoRoom p S i → is_no_room p S i ≡ true
    back (inl h) = rw (lt-ltb _ _ h)
    back (inr h) = rw (le-leb _ _ h.0, eq-eqb _ _ h.1) (or_true (ltb (limit_at p i) (count_at p i + 1)))

-- room for one more: a limit and a slot
room-left : (p : Pool) (S i : ℕ) → is_no_room p S i ≡ false → NoRoom p S i → ⊥
room-left p S i e w = true≢false (sym ((no_room p S i).1 w) ∙ e)

pub grows_within : (p : Pool) (S i : ℕ) → is_no_room p S i ≡ false → count_at p i + 1 ≤ limit_at p i
grows_within p S i e = go (dec_lt (limit_at p i) (count_at p i + 1))
  where
    go : Dec (limit_at p i < count_at p i + 1) → count_at p i + 1 ≤ limit_at p i
    go (yes h) = absurd (room-left p S i e (inl h))
    go (no h) = omega (arith, h)

pub below-or-free : (p : Pool) (S i : ℕ) → is_no_room p S i ≡ false → claimed p ≤ S → (count_at p i < floor_at p i) ⊎ (claimed p < S)
below-or-free p S i e h = go (dec_lt (count_at p i) (floor_at p i)) (dec_lt (claimed p) S)
  where
    go : Dec (count_at p i < floor_at p i) → Dec (claimed p < S) → (count_at p i < floor_at p i) ⊎ (claimed p < S)
    go (yes l) d = inl l
    go (no l) (yes d) = inr d
    go (no l) (no d) = absurd (room-left p S i e (inr (omega (arith, l), omega (arith, d, h))))

pub slot_free : (p : Pool) (S i : ℕ) → i < p.used → is_no_room p S i ≡ false → claimed p ≤ S → total p + 1 ≤ S
slot_free p S i l e h = go (below-or-free p S i e h)
  where
    go : (count_at p i < floor_at p i) ⊎ (claimed p < S) → total p + 1 ≤ S
    go (inl b) = let k : total p < claimed p = sum_less (count_at p) (claim_at p) i p.used l (count_claim p) (omega (arith, b)) in omega (arith, k, h)
    go (inr b) = let k = total-claimed p in omega (arith, k, b)

pub held-room : (t : Bool) (m : ℕ) → m ≤ cond t m (suc m)
held-room true m = omega arith
held-room false m = omega arith

-- the part and the list of a transfer
module _ (p : Pool) (xs : List ℕ) (i : ℕ) (l : i < p.used) (s : Shared p xs) where
  inside : 2 * (base p i + count_at p i) ≤ length xs
  inside =
      let a : base p i + count_at p i ≤ total p = part-ends p i l in
      let b : total p ≤ claimed p = total-claimed p in
      let c : claimed p ≤ capacity xs = s.claims in
      let z : length xs ≡ 2 * capacity xs = s.size in
      omega (arith, a, b, c, z)

  pub part_length : length (own_part p xs i) ≡ 2 * count_at p i
  part_length =
      let d : length (drop (2 * base p i) xs) ≡ length xs - 2 * base p i = length-drop (2 * base p i) xs in
      let h : 2 * (base p i + count_at p i) ≤ length xs = inside in
      length-take-le (2 * (base p i + count_at p i) - 2 * base p i) (drop (2 * base p i) xs) (omega (arith, d, h)) ∙ omega arith

  pub part-even : 2 * count_at p i ≤ length (own_part p xs i)
  part-even = let e : length (own_part p xs i) ≡ 2 * count_at p i = part_length in omega (arith, e)

  -- how many ranges the transfer has room for
  abbrev pub room_of : ℕ
  room_of = cond (is_no_room p (capacity xs) i) (count_at p i) (suc (count_at p i))

  pub list_length : length (own_list p xs i) ≡ 2 * room_of
  list_length = length-append (own_part p xs i) (free_slot (is_no_room p (capacity xs) i)) ∙ go (is_no_room p (capacity xs) i)
    where
      go : (t : Bool) → length (own_part p xs i) + length (free_slot t) ≡ 2 * cond t (count_at p i) (suc (count_at p i))
      go true = let e : length (own_part p xs i) ≡ 2 * count_at p i = part_length in omega (arith, e)
      go false = let e : length (own_part p xs i) ≡ 2 * count_at p i = part_length in omega (arith, e)

  pub list-capacity : capacity (own_list p xs i) ≡ room_of
  list-capacity = let e : length (own_list p xs i) ≡ 2 * room_of = list_length in omega (arith, e)

  pub room_most : room_of ≤ most_pairs
  room_most = go (is_no_room p (capacity xs) i) refl
    where
      go : (t : Bool) → is_no_room p (capacity xs) i ≡ t → cond t (count_at p i) (suc (count_at p i)) ≤ most_pairs
      go true e =
          let a : base p i + count_at p i ≤ total p = part-ends p i l in
          let b : total p ≤ claimed p = total-claimed p in
          let c : claimed p ≤ capacity xs = s.claims in
          let m : capacity xs ≤ most_pairs = s.most in
          omega (arith, a, b, c, m)
      go false e =
          let a : base p i + count_at p i ≤ total p = part-ends p i l in
          let b : total p + 1 ≤ capacity xs = slot_free p (capacity xs) i l e s.claims in
          let m : capacity xs ≤ most_pairs = s.most in
          omega (arith, a, b, m)

  pub list-most : length (own_list p xs i) ≤ most_numbers
  list-most = let e : length (own_list p xs i) ≡ 2 * room_of = list_length in let m : room_of ≤ most_pairs = room_most in omega (arith, e, m)

  -- the first numbers of the list are the part
  pub taken-part : take (2 * count_at p i) (own_list p xs i) ≡ own_part p xs i
  taken-part = take_at (own_part p xs i) (free_slot (is_no_room p (capacity xs) i)) (2 * count_at p i) part_length

  pub all-part : take (2 * count_at p i) (own_part p xs i) ≡ own_part p xs i
  all-part = take_all (2 * count_at p i) (own_part p xs i) (let e : length (own_part p xs i) ≡ 2 * count_at p i = part_length in omega (arith, e))

  pub counted-list : counted (own_list p xs i) (count_at p i) ≡ own_ranges p xs i
  counted-list = ap pairs taken-part

  pub counted-part : counted (own_part p xs i) (count_at p i) ≡ own_ranges p xs i
  counted-part = ap pairs all-part

  pub length_ranges : length (own_ranges p xs i) ≡ count_at p i
  length_ranges = ap length (sym counted-part) ∙ length-counted (own_part p xs i) (count_at p i) part-even

-- two lists with room enough and the same counted numbers are the same to check 10
same_store : (xs ys : List ℕ) (n top : ℕ) → take (2 * n) xs ≡ take (2 * n) ys → length xs % 2 ≡ 0 → length ys % 2 ≡ 0 → length xs ≤ most_numbers → length ys ≤ most_numbers
    → 2 * n ≤ length xs → 2 * n ≤ length ys → is_bad_store xs n top ≡ is_bad_store ys n top
unfolding is_bad_store
same_store xs ys n top e a b c d f g =
    rw (
      ne_eqb (length xs % 2) 1 (λ q. omega (arith, a, q)),
      ne_eqb (length ys % 2) 1 (λ q. omega (arith, b, q)),
      le-ltb most_numbers (length xs) c,
      le-ltb most_numbers (length ys) d,
      le-ltb (capacity xs) n (omega arith),
      le-ltb (capacity ys) n (omega arith),
    ) (ap (any_above top) e)

same_bad : (xs ys : List ℕ) (rec : Reception) → is_bad_store xs rec.count (limit_of rec.width) ≡ is_bad_store ys rec.count (limit_of rec.width)
    → counted xs rec.count ≡ counted ys rec.count → is_bad_record xs rec ≡ is_bad_record ys rec
unfolding is_bad_record
same_bad xs ys rec e f = rw (e, f)

same-checks : (xs ys : List ℕ) (rec : Reception) → is_bad_record xs rec ≡ is_bad_record ys rec → counted xs rec.count ≡ counted ys rec.count
    → record_checks rec xs ≡ record_checks rec ys
same-checks xs ys rec e f = rw (e, f)

-- so the free slot does not matter to checks 10, 8 and 12
module _ (p : Pool) (xs : List ℕ) (i : ℕ) (l : i < p.used) (s : Shared p xs) where
  pub own_bad : is_bad_record (own_list p xs i) (record_at p i) ≡ is_bad_transfer p xs i
  own_bad =
      let a : length (own_list p xs i) ≡ 2 * room_of p xs i l s = list_length p xs i l s in
      let b : length (own_part p xs i) ≡ 2 * count_at p i = part_length p xs i l s in
      let r : count_at p i ≤ room_of p xs i l s = held-room (is_no_room p (capacity xs) i) (count_at p i) in
      let m : room_of p xs i l s ≤ most_pairs = room_most p xs i l s in
      same_bad (own_list p xs i) (own_part p xs i) (record_at p i)
      (same_store (own_list p xs i) (own_part p xs i) (count_at p i) (limit_of (record_at p i).width) (taken-part p xs i l s ∙ sym (all-part p xs i l s))
      (omega (arith, a)) (omega (arith, b)) (omega (arith, a, m)) (omega (arith, b, r, m)) (omega (arith, a, r)) (omega (arith, b)))
      (counted-list p xs i l s ∙ sym (counted-part p xs i l s))

  pub own-checks : record_checks (record_at p i) (own_list p xs i) ≡ record_checks (record_at p i) (own_part p xs i)
  own-checks = same-checks (own_list p xs i) (own_part p xs i) (record_at p i) own_bad (counted-list p xs i l s ∙ sym (counted-part p xs i l s))
