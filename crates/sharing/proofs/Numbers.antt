-- The numbers of a transfer whose pool passes 23 and 10, and what its own checks say behind those.
use mathlib.Core.Path.{◌≡◌}
use mathlib.Core.List.{List, [], ◌++◌}
use Prim.Native.Nat.{ℕ, ◌+◌, ◌*◌, ◌≤◌, ◌<◌}
use native.Mathlib.Omega.{arith}
use lib.ListN.{length}
use Rattle.ranges.specs.Store.{capacity, most_pairs, most_numbers}
use Rattle.ranges.proofs.Test.{or_false}
use Rattle.outcomes.specs.Outcome.{Outcome, accepted}
use Rattle.outcomes.specs.Refusal.{refusing}
use Rattle.outcomes.specs.Checks.{Check, first_of, NoneOf}
use Rattle.outcomes.specs.declared.Refusal.{Refusal}
use Rattle.outcomes.proofs.FirstOf.{none_of}
use Rattle.reception.specs.Record.{record_checks}
use Rattle.pooling.specs.declared.Pool.{Pool}
use Rattle.pooling.specs.Pool.{most_transfers, record_at, count_at, claimed}
use Rattle.pooling.specs.Share.{base, total, own_part, is_bad_share, pool_checks, own_list}
use Rattle.pooling.proofs.Own.{known, shared, part-ends, total-claimed, own-checks}
use Rattle.pooling.proofs.Ends.{Ready}
use Rattle.sharing.specs.Inner.{other_checks}
use Rattle.sharing.proofs.Judged.{refused-before, passed-before}

pub record Numbers (p : Pool) (xs : List ℕ) (i : ℕ) : Type 0 where
  pub few : p.used ≤ most_transfers
  pub known : i < p.used
  pub ends : base p i + count_at p i ≤ total p
  pub slots : 2 * total p ≤ length xs
  pub most : length xs ≤ most_numbers
  pub all : total p ≤ most_pairs
  pub claims : claimed p ≤ most_pairs

pub numbers : (p : Pool) (xs : List ℕ) (i : ℕ) → Ready p xs i → Numbers p xs i
numbers p xs i r =
    let s = r.share in
    let z : length xs ≡ 2 * capacity xs = s.size in
    let m : capacity xs ≤ most_pairs = s.most in
    let c : claimed p ≤ capacity xs = s.claims in
    let t : total p ≤ claimed p = total-claimed p in
    record {
      few = r.settings.few;
      known = r.known;
      ends = part-ends p i r.known;
      slots = omega (arith, z, c, t);
      most = omega (arith, z, m);
      all = omega (arith, t, c, m);
      claims = omega (arith, c, m);
    }

-- the code's checks pass
pub ready-others : (p : Pool) (xs : List ℕ) (i : ℕ) → accepted [] ≡ first_of (other_checks p xs i) (accepted []) → Ready p xs i
ready-others p xs i e =
    let n : NoneOf (other_checks p xs i) = none_of (other_checks p xs i) e in
    let k = known p xs i n.0 in
    record { settings = k.0; known = k.1; share = shared p xs (or_false (is_bad_share p xs) _ n.1.0).0 }

-- the checks of an event, behind those of the pool
module _ (p : Pool) (xs : List ℕ) (i : ℕ) (cs : List Check) where
  pub own-refused : (r : Refusal) → refusing r ≡ first_of (other_checks p xs i) (accepted [])
      → refusing r ≡ first_of (pool_checks p xs i ++ (record_checks (record_at p i) (own_list p xs i) ++ cs)) (accepted [])
  own-refused = refused-before p xs (own_list p xs i) i (λ u s. own-checks p xs i (known p xs i u).1 (shared p xs s)) (λ u. (known p xs i u).1) cs (accepted [])

  pub own-passed : (o : Outcome) → accepted [] ≡ first_of (other_checks p xs i) (accepted []) → o ≡ first_of (record_checks (record_at p i) (own_part p xs i) ++ cs) (accepted [])
      → o ≡ first_of (pool_checks p xs i ++ (record_checks (record_at p i) (own_list p xs i) ++ cs)) (accepted [])
  own-passed = passed-before p xs (own_list p xs i) i (λ u s. own-checks p xs i (known p xs i u).1 (shared p xs s)) (λ u. (known p xs i u).1) cs (accepted [])
