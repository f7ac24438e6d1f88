-- The entries of a sequence as they lie in a lent list: how many there are, where each ends, and the requests of one PDU.
use mathlib.Core.Path.{◌≡◌, sym, ap, ◌∙◌}
use mathlib.Core.Bool.{Bool, true, false, cond}
use mathlib.Core.List.{List, ◌∷◌}
use Prim.Native.Nat.{ℕ, suc, ◌+◌, ◌*◌, ◌-◌, ◌≤◌, ◌<◌, min}
use native.Mathlib.Omega.{arith}
use native.Mathlib.Decide.{dec_lt}
use lib.ListN.{length, get_or, take, drop, length-drop}
use lib.Seq.{take_all}
use Rattle.ranges.specs.Range.{Range, range}
use Rattle.ranges.specs.Store.{counted}
use Rattle.ranges.proofs.Flat.{at, get_or-counted, length-counted, take_counted, drop_of_counted}
use Rattle.reception.specs.declared.Reception.{Reception}
use Rattle.nak.specs.declared.Form.{Form}
use Rattle.nak.specs.declared.Identity.{Identity}
use Rattle.nak.specs.Pdu.{Nak, saying}
use Rattle.nak.specs.Inner as writer
use Rattle.sequence.specs.Entries.{asking_for, entries_of, entries_in, end_of, scope_start, scope_end_of, nak_at}
use Rattle.nak_sequence.specs.Inner.{entry_count}

pub length-entries : (rec : Reception) (xs : List ℕ) → 2 * rec.count ≤ length xs → length (entries_in rec xs) ≡ entry_count rec
length-entries rec xs h = go rec.missing
  where
    go : (m : Bool) → length (entries_of m (counted xs rec.count)) ≡ cond m (rec.count + 1) rec.count
    go true = let c = length-counted xs rec.count h in omega arith
    go false = length-counted xs rec.count h

pub end_known : (xs : List ℕ) (n i : ℕ) → i < n → 2 * n ≤ length xs → end_of (entries_of false (counted xs n)) i ≡ get_or xs (2 * i + 1) 0
end_known xs n i k h = ap (λ (r : Range). r.end) (get_or-counted xs n i k h)

pub end_missing : (xs : List ℕ) (n i l : ℕ) → i ≡ suc l → l < n → 2 * n ≤ length xs → end_of (entries_of true (counted xs n)) i ≡ get_or xs (2 * l + 1) 0
end_missing xs n i l e k h = ap (end_of (entries_of true (counted xs n))) e ∙ ap (λ (r : Range). r.end) (get_or-counted xs n l k h)

pub start-behind : (es : List Range) (f l : ℕ) → f ≡ suc l → end_of es l ≡ scope_start es f
start-behind es f l e = sym (ap (scope_start es) e)

-- the requests of one PDU: at most k of the pairs from place f on
pub some_pairs : (xs : List ℕ) (n f k : ℕ) → f ≤ n → 2 * n ≤ length xs → take k (drop f (counted xs n)) ≡ writer.pairs_from xs f (min k (n - f))
some_pairs xs n f k h u = ap (take k) (drop_of_counted xs n f h u) ∙ go (dec_lt k (n - f))
  where
    d : length (drop (2 * f) xs) ≡ length xs - 2 * f
    d = length-drop (2 * f) xs

    c : length (counted (drop (2 * f) xs) (n - f)) ≡ n - f
    c = length-counted (drop (2 * f) xs) (n - f) (omega (arith, d))

    go : Dec (k < n - f) → take k (counted (drop (2 * f) xs) (n - f)) ≡ counted (drop (2 * f) xs) (min k (n - f))
    go (yes l) = let e : min k (n - f) ≡ k = omega arith in rw e (take_counted (drop (2 * f) xs) (n - f) k (omega arith) (omega (arith, d)))
    go (no l) = let e : min k (n - f) ≡ n - f = omega arith in rw e (take_all k (counted (drop (2 * f) xs) (n - f)) (omega (arith, c)))

pub known-requests : (xs : List ℕ) (n f k m : ℕ) → f ≤ n → 2 * n ≤ length xs → m ≡ min k (n - f)
    → writer.entries false xs f m ≡ take k (drop f (entries_of false (counted xs n)))
known-requests xs n f k m h u e = rw e (sym (some_pairs xs n f k h u))

pub later-requests : (xs : List ℕ) (n f l k m : ℕ) → f ≡ suc l → l ≤ n → 2 * n ≤ length xs → m ≡ min k (n + 1 - f)
    → writer.entries false xs l m ≡ take k (drop f (entries_of true (counted xs n)))
later-requests xs n f l k m g h u e =
    let j : m ≡ min k (n - l) = omega arith in
    rw (g, j) (sym (some_pairs xs n l k h u))

pub first-requests : (xs : List ℕ) (n f k c m : ℕ) → f ≡ 0 → k ≡ suc c → 2 * n ≤ length xs → m ≡ min k (n + 1 - f)
    → writer.entries true xs 0 (m - 1) ≡ take k (drop f (entries_of true (counted xs n)))
first-requests xs n f k c m g q u e =
    let j : m - 1 ≡ min c (n - 0) = omega arith in
    rw (g, q, j) (ap (λ (l : List Range). range 0 0 ∷ l) (sym (some_pairs xs n 0 c (omega arith) u)))

pub count_le : (rec : Reception) → entry_count rec ≤ rec.count + 1
count_le rec = go rec.missing
  where
    go : (m : Bool) → cond m (rec.count + 1) rec.count ≤ rec.count + 1
    go true = omega arith
    go false = omega arith

-- the PDU that `write_at` is asked for is the one from entry f on
module _ (g : Form) (d : Identity) (rec : Reception) (xs : List ℕ) (k f s e c : ℕ)
    (h : 2 * rec.count ≤ length xs) (u : s ≡ scope_start (entries_in rec xs) f) (v : e ≡ scope_end_of (entries_in rec xs) rec.progress k f)
    (w : c ≡ min k (entry_count rec - f)) where
  abbrev there : Nak
  there = nak_at (asking_for rec xs g d k) f

  pub first_nak : rec.missing ≡ true → f ≡ 0 → 1 ≤ k → saying g d s e (writer.entries true xs 0 (c - 1)) ≡ there
  first_nak a b l =
      let q : c ≡ min k (rec.count + 1 - f) = w ∙ rw a in
      let z : writer.entries true xs 0 (c - 1) ≡ take k (drop f (entries_in rec xs)) = first-requests xs rec.count f k (k - 1) c b (omega arith) h q ∙ rw a in
      rw (u, v, z)

  pub later_nak : rec.missing ≡ true → (f ≡ 0 → ⊥) → f < entry_count rec → saying g d s e (writer.entries false xs (f - 1) c) ≡ there
  later_nak a b l =
      let o = rw a at l in
      let q : c ≡ min k (rec.count + 1 - f) = w ∙ rw a in
      let z : writer.entries false xs (f - 1) c ≡ take k (drop f (entries_in rec xs)) = later-requests xs rec.count f (f - 1) k c (omega arith) (omega arith) h q ∙ rw a in
      rw (u, v, z)

  pub known_nak : rec.missing ≡ false → f < entry_count rec → saying g d s e (writer.entries false xs f c) ≡ there
  known_nak a l =
      let o = rw a at l in
      let q : c ≡ min k (rec.count - f) = w ∙ rw a in
      let z : writer.entries false xs f c ≡ take k (drop f (entries_in rec xs)) = known-requests xs rec.count f k c (omega arith) h q ∙ rw a in
      rw (u, v, z)

  -- how many pairs of the list the PDU holds
  pub few-first : rec.missing ≡ true → f ≡ 0 → 1 ≤ k → 2 * 0 + 2 * (c - 1) ≤ length xs
  few-first a b l = let q : c ≡ min k (rec.count + 1 - f) = w ∙ rw a in omega arith

  pub few-later : rec.missing ≡ true → (f ≡ 0 → ⊥) → f < entry_count rec → 2 * (f - 1) + 2 * c ≤ length xs
  few-later a b l =
      let o = rw a at l in
      let q : c ≡ min k (rec.count + 1 - f) = w ∙ rw a in
      omega arith

  pub few-known : rec.missing ≡ false → f < entry_count rec → 2 * f + 2 * c ≤ length xs
  few-known a l =
      let o = rw a at l in
      let q : c ≡ min k (rec.count - f) = w ∙ rw a in
      omega arith
