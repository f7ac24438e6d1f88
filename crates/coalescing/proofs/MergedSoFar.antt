-- What `merge_ascending` has merged so far: the first k pairs, coalesced.
use mathlib.Core.Path.{◌≡◌, refl, sym, ap, ◌∙◌}
use mathlib.Core.List.{List, append_assoc}
use Prim.Native.Nat.{ℕ, ◌+◌, ◌*◌, ◌-◌, ◌≤◌, ◌<◌}
use native.Mathlib.Nat.{add-zero}
use native.Mathlib.Omega.{arith}
use lib.ListN.{length, get_or, take, drop, replicate, length-replicate}
use lib.Seq.{get_or-drop, drop-drop, take_all}
use Rattle.ranges.specs.Range.{Range}
use Rattle.ranges.specs.Store.{counted, stored}
use Rattle.ranges.proofs.Flat.{at, scan₂, length-counted, drop-counted}
use Rattle.ranges.proofs.Flat.{flat-counted}
use Rattle.ranges.proofs.Stored.{counted-stored, stored_shrunk, length-stored, drop-stored}
use Rattle.ranges.specs.Inner.Moves.{over}
use Rattle.ranges.specs.Insert.{join}
use Rattle.ranges.proofs.Insert.{join-length}
use Rattle.segment_store.specs.Coalesce.{gather, maximal_runs}

-- xs is the list at entry, l at the loop's head; the first m counted of l are those of the first k of xs, coalesced
pub record MergedSoFar (xs l : List ℕ) (n m k : ℕ) : Type 0 where
  pub few : k ≤ n
  pub less : m ≤ k
  pub same : length l ≡ length xs
  pub ans : gather (counted l m) (drop k (counted xs n)) ≡ maximal_runs (counted xs n)
  pub rest : drop (2 * k) l ≡ drop (2 * k) xs

pub begin : (xs : List ℕ) (n : ℕ) → MergedSoFar xs xs n 0 0
unfolding maximal_runs
begin xs n = record { few = omega arith; less = omega arith; same = refl; ans = refl; rest = refl }

pub beyond : (p i : ℕ) (l xs : List ℕ) → drop p l ≡ drop p xs → get_or l (p + i) 0 ≡ get_or xs (p + i) 0
beyond p i l xs e = sym (get_or-drop p l i 0) ∙ ap (λ (u : List ℕ). get_or u i 0) e ∙ get_or-drop p xs i 0

pub step : (xs l l' : List ℕ) (n m k m' : ℕ) → 2 * n ≤ length xs → k < n → MergedSoFar xs l n m k → m' ≡ length (join (at l k) (counted l m))
    → l' ≡ stored (join (at l k) (counted l m)) m l → MergedSoFar xs l' n m' (k + 1)
step xs l l' n m k m' h u g a b =
    let s = g.same in
    let lm = g.less in
    let qs : List Range = join (at l k) (counted l m) in
    let lr = length-counted l m (omega arith) in
    let lj = join-length (at l k) (counted l m) in
    let x₀ : get_or l (2 * k) 0 ≡ get_or xs (2 * k) 0 = rw (sym (add-zero (2 * k))) (beyond (2 * k) 0 l xs g.rest) in
    let x₁ : get_or l (2 * k + 1) 0 ≡ get_or xs (2 * k + 1) 0 = beyond (2 * k) 1 l xs g.rest in
    let r : counted l' m' ≡ qs = rw (b, a) (counted-stored qs m l) in
    let p : 2 * (k + 1) ≡ 2 * k + 2 = omega arith in
    record {
      few = omega arith;
      less = omega arith;
      same = rw b (length-stored qs m l (omega arith) (omega arith) ∙ s);
      ans = rw (r, x₀, x₁) (sym (scan₂ (gather (counted l m)) xs n k u h) ∙ g.ans);
      rest = rw b (drop-stored (2 * (k + 1)) qs m l (omega arith) (omega arith) ∙ rw p (sym (drop-drop 2 (2 * k) l) ∙ ap (drop 2) g.rest ∙ drop-drop 2 (2 * k) xs));
    }

pub whole : (xs l : List ℕ) (n m : ℕ) → 2 * n ≤ length xs → MergedSoFar xs l n m n → counted l m ≡ maximal_runs (counted xs n)
whole xs l n m h g = rw (drop-counted xs n h) at g.ans

pub finish : (xs l l' : List ℕ) (n m : ℕ) → 2 * n ≤ length xs → MergedSoFar xs l n m n
    → l' ≡ over l (2 * m) (2 * n - 2 * m) (replicate (2 * n - 2 * m) 0) → l' ≡ stored (maximal_runs (counted xs n)) n xs
unfolding over
finish xs l l' n m h g e =
    let s = g.same in
    let lm = g.less in
    let z : ℕ = 2 * n - 2 * m in
    let lr = length-counted l m (omega arith) in
    let o = length-replicate {A = ℕ} z 0 in
    let q : 2 * m + z ≡ 2 * n = omega arith in
    e ∙ rw (sym (whole xs l n m h g), stored_shrunk (counted l m) n xs (omega arith), lr, flat-counted l m (omega arith), q, take_all z (replicate {A = ℕ} z 0) (omega arith), g.rest)
    (append_assoc (take (2 * m) l) (replicate z 0) (drop (2 * n) xs))
