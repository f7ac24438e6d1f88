-- A pool in which one transfer got another record and other ranges: every other transfer has its own as before.
use mathlib.Core.Path.{◌≡◌, sym, ap, ap₂, ◌∙◌}
use mathlib.Core.List.{List}
use Prim.Native.Nat.{ℕ, ◌+◌, ◌*◌, ◌-◌, ◌≤◌, ◌<◌, max}
use native.Mathlib.Omega.{arith}
use native.Mathlib.Decide.{dec_lt}
use lib.ListN.{length, take, drop}
use lib.Seq.{get_or-set_same, get_or-set_other}
use Rattle.ranges.specs.Range.{Range}
use Rattle.ranges.specs.Store.{pairs, flat, counted, stored}
use Rattle.ranges.proofs.Flat.{length-counted, pairs-flat}
use Rattle.ranges.proofs.Stored.{counted-stored, length-stored}
use Rattle.reception.specs.declared.Reception.{Reception}
use Rattle.pooling.specs.declared.Pool.{Pool}
use Rattle.pooling.specs.Pool.{nowhere, record_at, count_at, floor_at, with_record, claim_at, claimed}
use Rattle.pooling.specs.Share.{base, total, all_ranges, own_part, own_ranges}
use Rattle.pooling.specs.Events.{with_ranges}
use Rattle.pooling.proofs.Sums.{sum-within, sum_same, sum_other}
use Rattle.pooling.proofs.Replacing.{before, self, behind, new_length, some-counted}

-- the part of a transfer, by ranges
pub part_ranges : (p : Pool) (xs : List ℕ) (k : ℕ) → base p k + count_at p k ≤ total p → 2 * total p ≤ length xs
    → own_part p xs k ≡ flat (take (count_at p k) (drop (base p k) (all_ranges p xs)))
part_ranges p xs k h z =
    let e : 2 * (base p k + count_at p k) - 2 * base p k ≡ 2 * count_at p k = omega arith in
    ap (λ (n : ℕ). take n (drop (2 * base p k) xs)) e ∙ some-counted xs (total p) (base p k) (count_at p k) h z

module _ (p : Pool) (xs : List ℕ) (i : ℕ) (rec : Reception) (qs : List Range) (count : rec.count ≡ length qs) (known : i < p.used) (inside : i < length p.records)
    (slots : 2 * total p ≤ length xs) (room : 2 * (total p + length qs) ≤ length xs + 2 * count_at p i) where
  abbrev pub q : Pool
  q = with_record p i rec

  abbrev pub all : List Range
  all = with_ranges p xs i qs

  abbrev pub l : List ℕ
  l = stored all (total p) xs

  pub record_same : record_at q i ≡ rec
  record_same = get_or-set_same p.records i rec nowhere inside

  pub record_other : (k : ℕ) → (k ≡ i → ⊥) → record_at q k ≡ record_at p k
  record_other k n = get_or-set_other p.records i k rec nowhere n

  count_same : count_at q i ≡ length qs
  count_same = ap (λ (r : Reception). r.count) record_same ∙ count

  count-other : (k : ℕ) → (k ≡ i → ⊥) → count_at q k ≡ count_at p k
  count-other k n = ap (λ (r : Reception). r.count) (record_other k n)

  -- where the others begin
  base-before : (k : ℕ) → k ≤ i → base q k ≡ base p k
  base-before k h = sum_same (count_at q) (count_at p) k (λ j m. count-other j (λ e. omega (arith, e, m, h)))

  base-behind : (k : ℕ) → i < k → base q k + count_at p i ≡ base p k + length qs
  base-behind k h =
      let s : base q k + count_at p i ≡ base p k + count_at q i = sum_other (count_at p) (count_at q) i k h (λ j n. sym (count-other j n)) in
      let c : count_at q i ≡ length qs = count_same in
      omega (arith, s, c)

  mine : base p i + count_at p i ≤ total p
  mine = sum-within (count_at p) i p.used known

  held : length (all_ranges p xs) ≡ total p
  held = length-counted xs (total p) slots

  fits : base p i + count_at p i ≤ length (all_ranges p xs)
  fits = let a = mine in let b = held in omega (arith, a, b)

  pub all-length : length all + count_at p i ≡ total p + length qs
  all-length = let a = new_length (all_ranges p xs) qs (base p i) (count_at p i) fits in let b = held in omega (arith, a, b)

  pub total-is : total q ≡ length all
  total-is = let a = base-behind p.used known in let b = all-length in omega (arith, a, b)

  pub list_length : length l ≡ length xs
  list_length = let b = all-length in length-stored all (total p) xs (omega (arith, b, room)) slots

  pub all-ranges : all_ranges q l ≡ all
  all-ranges = ap (counted l) total-is ∙ counted-stored all (total p) xs

  new-slots : 2 * total q ≤ length l
  new-slots = let a = total-is in let b = all-length in let c = list_length in omega (arith, a, b, c, room)

  -- the sum of the larger of held and floor
  pub claimed-is : claimed q + claim_at p i ≡ claimed p + max (length qs) (floor_at p i)
  claimed-is =
      let s : claimed q + claim_at p i ≡ claimed p + claim_at q i = sum_other (claim_at p) (claim_at q) i p.used known (λ k n. ap (λ (m : ℕ). max m (floor_at p k)) (sym (count-other k n))) in
      let c : count_at q i ≡ length qs = count_same in
      omega (arith, s, c)

  -- the transfer's own part
  pub part_same : own_part q l i ≡ flat qs
  part_same =
      let b : base q i ≡ base p i = base-before i (omega arith) in
      part_ranges q l i (sum-within (count_at q) i p.used known) new-slots
      ∙ ap flat
      (ap (λ (rs : List Range). take (count_at q i) (drop (base q i) rs)) all-ranges
      ∙ ap₂ (λ (m n : ℕ). take m (drop n all)) count_same b
      ∙ self (all_ranges p xs) qs (base p i) (count_at p i) fits)

  -- every other's
  pub part_other : (k : ℕ) → k < p.used → (k ≡ i → ⊥) → own_part q l k ≡ own_part p xs k
  part_other k h n =
      part_ranges q l k (sum-within (count_at q) k p.used h) new-slots
      ∙ ap flat (ap (λ (rs : List Range). take (count_at q k) (drop (base q k) rs)) all-ranges ∙ ap (λ (m : ℕ). take m (drop (base q k) all)) (count-other k n) ∙ go (dec_lt k i))
      ∙ sym (part_ranges p xs k (sum-within (count_at p) k p.used h) slots)
    where
      go : Dec (k < i) → take (count_at p k) (drop (base q k) all) ≡ take (count_at p k) (drop (base p k) (all_ranges p xs))
      go (yes c) =
          let b : base q k ≡ base p k = base-before k (omega (arith, c)) in
          let w : base p k + count_at p k ≤ base p i = sum-within (count_at p) k i c in
          ap (λ (m : ℕ). take (count_at p k) (drop m all)) b ∙ before (all_ranges p xs) qs (base p i) (count_at p i) fits (base p k) (count_at p k) w
      go (no c) =
          let d : i < k = omega (arith, c, n) in
          let w : base p i + count_at p i ≤ base p k = sum-within (count_at p) i k d in
          let b : base q k + count_at p i ≡ base p k + length qs = base-behind k d in
          let j : ℕ = base p k - (base p i + count_at p i) in
          let u : base q k ≡ base p i + length qs + j = omega (arith, w, b) in
          let v : base p i + count_at p i + j ≡ base p k = omega (arith, w) in
          ap (λ (m : ℕ). take (count_at p k) (drop m all)) u
          ∙ behind (all_ranges p xs) qs (base p i) (count_at p i) fits j (count_at p k)
          ∙ ap (λ (m : ℕ). take (count_at p k) (drop m (all_ranges p xs))) v

  pub ranges_same : own_ranges q l i ≡ qs
  ranges_same = ap (λ (ys : List ℕ). pairs ys) part_same ∙ pairs-flat qs
