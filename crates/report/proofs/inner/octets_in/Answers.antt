-- The octets of the first i ranges and those of the others are the list's, and never more than progress.
use Rattle.std.proofs.Common.{◌≡◌, ℕ, ◌+◌, ◌*◌, ◌-◌, ◌≤◌, ◌<◌, List, length, drop, arith}
use Rattle.ranges.specs.Range.{Coalesced, last_end}
use Rattle.ranges.specs.Store.{counted, start_at, end_at}
use Rattle.ranges.proofs.Flat.{length-counted, get_or-counted, scan₂, drop-counted}
use Rattle.ranges.proofs.Halving.{above_at}
use Rattle.holding.specs.Count.{is_covered}
use Rattle.holding.proofs.Counting.{count_most, lengths, lengths-below}
use Rattle.report.proofs.inner.octets_in.Goals as goal

-- the start of pair i is below its end
ordered : (xs : List ℕ) (n i s e : ℕ) → 2 * n ≤ length xs → Coalesced (counted xs n) → i < n → s ≡ start_at xs i → e ≡ end_at xs i → s < e
ordered xs n i s e h a u f g =
    let l = length-counted xs n h in
    let k = above_at 0 (counted xs n) i a (omega arith) in
    let o = rw (get_or-counted xs n i u h) at k.1 in
    omega arith

-- its octets are the next of those still to be added
on : (xs : List ℕ) (n i octets s e : ℕ) → 2 * n ≤ length xs → i < n → octets + lengths (drop i (counted xs n)) ≡ lengths (counted xs n)
    → s ≡ start_at xs i → e ≡ end_at xs i → octets + ((e - s) + lengths (drop (i + 1) (counted xs n))) ≡ lengths (counted xs n)
on xs n i octets s e h u t f g = let k = scan₂ lengths xs n i u h in omega arith

-- all of them are at most progress
most : (xs : List ℕ) (n progress : ℕ) → Coalesced (counted xs n) × (last_end (counted xs n) ≤ progress) → lengths (counted xs n) ≤ progress
most xs n progress p = omega (arith, lengths-below 0 progress (counted xs n) p.0 p.1, count_most (is_covered (counted xs n)) progress)

pub overflow_sub-octets : goal.overflow_sub-octets
overflow_sub-octets c =
    let a = c.args in
    omega (
      arith,
      ordered a.list.now a.count c.loop-i.i _ _ c.requires.count_in_bounds c.requires.coalesced.0 c.loop-i-test.true c.start_at.ensures c.end_at.ensures,
    )

pub overflow_add-octets : goal.overflow_add-octets
overflow_add-octets c =
    let a = c.args in
    let o = c.loop-i in
    omega (
      arith,
      on a.list.now a.count o.i o.octets _ _ c.requires.count_in_bounds c.loop-i-test.true o.invariant c.start_at.ensures c.end_at.ensures,
      most a.list.now a.count a.progress c.requires.coalesced,
    )

pub loop-i-preserved : goal.loop-i-preserved
loop-i-preserved c =
    let a = c.args in
    let o = c.loop-i in
    omega (
      arith,
      on a.list.now a.count o.i o.octets _ _ c.requires.count_in_bounds c.loop-i-test.true o.invariant c.start_at.ensures c.end_at.ensures,
    )

pub returns : goal.returns
returns c =
    let a = c.args in
    let p = c.requires in
    let l = c.loop-i in
    let e : l.i ≡ a.count = omega arith in
    let k = rw (e, drop-counted a.list.now a.count p.count_in_bounds) at l.invariant in
    omega (arith, k, lengths-below 0 a.progress (counted a.list.now a.count) p.coalesced.0 p.coalesced.1)
