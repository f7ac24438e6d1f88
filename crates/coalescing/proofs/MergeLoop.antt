-- The loop of `merge_ascending`: what is merged so far is coalesced, and starts no later than the next pair.
use mathlib.Core.Path.{◌≡◌, sym}
use mathlib.Core.List.{List}
use Prim.Native.Nat.{ℕ, suc, ◌+◌, ◌*◌, ◌≤◌, ◌<◌}
use native.Mathlib.Nat.{add-zero}
use native.Mathlib.Numerals.{add-one}
use native.Mathlib.Omega.{arith}
use lib.ListN.{length}
use Rattle.ranges.specs.Range.{Range, Coalesced}
use Rattle.ranges.specs.Store.{counted, stored}
use Rattle.ranges.proofs.Flat.{at}
use Rattle.ranges.proofs.Stored.{counted-stored}
use Rattle.ranges.specs.Insert.{join}
use Rattle.ranges.proofs.Insert.{join-above}
use Rattle.coalescing.proofs.MergedSoFar.{MergedSoFar, begin, step, beyond}
use Rattle.pair_sort.specs.Sorted.{key, Ascending}
use Rattle.coalescing.specs.Inner.{Low}
use Rattle.coalescing.proofs.JoinLast.{low_weak, join-low}

-- the counted so far start no later than the next
pub record MergeLoop (xs l : List ℕ) (n m k : ℕ) : Type 0 where
  pub going : MergedSoFar xs l n m k
  pub whole : Coalesced (counted l m)
  pub low : k < n → Low (key xs k) (counted l m)

pub pass-begin : (xs : List ℕ) (n : ℕ) → MergeLoop xs xs n 0 0
pass-begin xs n = record { going = begin xs n; whole = tt; low = λ h. tt }

next : (xs l : List ℕ) (n m k : ℕ) → MergedSoFar xs l n m k → key l k ≡ key xs k
next xs l n m k g = rw (sym (add-zero (2 * k))) (beyond (2 * k) 0 l xs g.rest)

pub pass-low : (xs l : List ℕ) (n m k : ℕ) → k < n → MergeLoop xs l n m k → Low (key l k) (counted l m)
pass-low xs l n m k h p = rw (next xs l n m k p.going) (p.low h)

pub pass_step : (xs l l' : List ℕ) (n m k m' : ℕ) → 2 * n ≤ length xs → Ascending xs n → k < n → MergeLoop xs l n m k
    → m' ≡ length (join (at l k) (counted l m)) → l' ≡ stored (join (at l k) (counted l m)) m l → MergeLoop xs l' n m' (k + 1)
pass_step xs l l' n m k m' h up u p a b =
    let qs : List Range = join (at l k) (counted l m) in
    let r : counted l' m' ≡ qs = rw (b, a) (counted-stored qs m l) in
    let e = next xs l n m k p.going in
    record {
      going = step xs l l' n m k m' h u p.going a b;
      whole = rw r (join-above (at l k) (counted l m) p.whole);
      low = λ v. rw (r, add-one k) (low_weak (key l k) (key xs (suc k)) qs (omega (arith, up k (omega arith))) (join-low (at l k) (counted l m) (pass-low xs l n m k u p)));
    }
