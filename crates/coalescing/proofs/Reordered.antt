-- The counted in another order have the same offsets, so they are coalesced to the same list.
use mathlib.Core.Path.{◌≡◌, refl, sym, ap, ◌∙◌}
use mathlib.Core.List.{List}
use mathlib.Core.Logic.{◌⊎◌, inl, inr, ⊎_elim}
use Prim.Native.Nat.{ℕ, zero, suc, ◌+◌, ◌*◌, ◌≤◌, ◌<◌}
use native.Mathlib.Omega.{arith}
use lib.ListN.{length, get_or, drop, length-drop}
use lib.Seq.{ext_get_or, get_or-drop}
use Rattle.ranges.specs.Range.{Range, range, Covers}
use Rattle.ranges.specs.Store.{counted, stored}
use Rattle.ranges.proofs.Flat.{length-counted, get_or-counted}
use Rattle.ranges.proofs.Unique.{unique}
use Rattle.ranges.proofs.Covering.{covers_at, at_covers}
use Rattle.segment_store.specs.Coalesce.{maximal_runs}
use Rattle.segment_store.proofs.coalesce.Meaning.{runs-coalesced, runs_covers}
use Rattle.pair_sort.specs.Sorted.{pair, Shuffled}

moved : (x : ℕ) (xs ys : List ℕ) (n : ℕ) → 2 * n ≤ length xs → 2 * n ≤ length ys → ((i : ℕ) → i < n → (j : ℕ) × (j < n) × (pair xs i ≡ pair ys j))
    → Covers x (counted xs n) → Covers x (counted ys n)
moved x xs ys n h k f g =
    let w = covers_at x (counted xs n) g in
    let a = length-counted xs n h in
    let b = length-counted ys n k in
    let i : w.0 < n = omega (arith, w.1) in
    let v = f w.0 i in
    let e : get_or (counted xs n) w.0 (range 0 0) ≡ get_or (counted ys n) v.0 (range 0 0) = get_or-counted xs n w.0 i h ∙ v.2 ∙ sym (get_or-counted ys n v.0 v.1 k) in
    at_covers x (counted ys n) v.0 (omega (arith, v.1)) (rw e at w.2)

pub same_runs : (xs ys : List ℕ) (n : ℕ) → 2 * n ≤ length xs → Shuffled xs ys n → maximal_runs (counted ys n) ≡ maximal_runs (counted xs n)
same_runs xs ys n h s =
    let z = s.size in
    let k : 2 * n ≤ length ys = omega arith in
    unique (maximal_runs (counted ys n)) (maximal_runs (counted xs n)) (runs-coalesced (counted ys n)) (runs-coalesced (counted xs n))
    (λ x. (
      λ c. (runs_covers x (counted xs n)).1 (moved x ys xs n k h s.from ((runs_covers x (counted ys n)).0 c)),
      λ c. (runs_covers x (counted ys n)).1 (moved x xs ys n h k s.to ((runs_covers x (counted xs n)).0 c)),
    ))

parity : (i : ℕ) → (k : ℕ) × ((i ≡ 2 * k) ⊎ (i ≡ 2 * k + 1))
parity zero = (zero, inl refl)
parity (suc i) = let w = parity i in ⊎_elim (λ e. (w.0, inr (omega arith))) (λ e. (suc w.0, inl (omega arith))) w.1

past-at : (xs ys : List ℕ) (n i : ℕ) → Shuffled xs ys n → 2 * n ≤ i → get_or ys i 0 ≡ get_or xs i 0
past-at xs ys n i s h = go (parity i).0 (parity i).1
  where
    go : (k : ℕ) → (i ≡ 2 * k) ⊎ (i ≡ 2 * k + 1) → get_or ys i 0 ≡ get_or xs i 0
    go k (inl e) = rw e (ap (λ (r : Range). r.start) (s.past k (omega arith)))
    go k (inr e) = rw e (ap (λ (r : Range). r.end) (s.past k (omega arith)))

pub same_rest : (xs ys : List ℕ) (n : ℕ) → Shuffled xs ys n → drop (2 * n) ys ≡ drop (2 * n) xs
same_rest xs ys n s =
    let z = s.size in
    let a = length-drop (2 * n) xs in
    let b = length-drop (2 * n) ys in
    ext_get_or 0 (drop (2 * n) ys) (drop (2 * n) xs) (omega arith)
    (λ i u. get_or-drop (2 * n) ys i 0 ∙ past-at xs ys n (2 * n + i) s (omega arith) ∙ sym (get_or-drop (2 * n) xs i 0))

pub same-stored : (xs ys : List ℕ) (n : ℕ) → 2 * n ≤ length xs → Shuffled xs ys n → stored (maximal_runs (counted ys n)) n ys ≡ stored (maximal_runs (counted xs n)) n xs
unfolding stored
same-stored xs ys n h s = rw (same_runs xs ys n h s, same_rest xs ys n s)
