-- With no 10 and no 23, what is asked of a transfer is answered by its own record and ranges alone.
use mathlib.Core.Path.{◌≡◌, ap, ap₂, ◌∙◌, sym}
use mathlib.Core.List.{List}
use Prim.Native.Nat.{ℕ}
use Rattle.ranges.specs.Store.{flat}
use Rattle.outcomes.specs.Outcome.{Outcome}
use Rattle.outcomes.specs.Checks.{NoneOf, first_of}
use Rattle.outcomes.proofs.FirstOf.{first-none}
use Rattle.reception.specs.declared.Reception.{Reception}
use Rattle.holding.specs.Held.{held_outcome}
use Rattle.holding.specs.MissingOctets.{missing_octets_outcome}
use Rattle.sequence.specs.Sequence.{sequence_outcome}
use Rattle.sequence.specs.declared.Order.{Order}
use Rattle.pooling.specs.declared.Pool.{Pool}
use Rattle.pooling.specs.Pool.{record_at}
use Rattle.pooling.specs.Share.{own_part, own_ranges, pool_checks}
use Rattle.pooling.proofs.Alike.{part-flat}
use Rattle.pool_report.specs.Report.{pool_held_outcome, pool_missing_outcome, pool_sequence_outcome}

module _ (p q : Pool) (xs ys : List ℕ) (i j : ℕ) (n : NoneOf (pool_checks p xs i)) (m : NoneOf (pool_checks q ys j))
    (record-as : record_at p i ≡ record_at q j) (ranges-as : own_ranges p xs i ≡ own_ranges q ys j) where
  -- of any call over the record and the part
  alike : (f : Reception → List ℕ → Outcome) → first_of (pool_checks p xs i) (f (record_at p i) (own_part p xs i)) ≡ first_of (pool_checks q ys j) (f (record_at q j) (own_part q ys j))
  alike f =
      first-none (pool_checks p xs i) (f (record_at p i) (own_part p xs i)) n
      ∙ ap₂ f record-as (part-flat p xs i n ∙ ap flat ranges-as ∙ sym (part-flat q ys j m))
      ∙ sym (first-none (pool_checks q ys j) (f (record_at q j) (own_part q ys j)) m)

  pub same-held : (a b : ℕ) → pool_held_outcome p xs i a b ≡ pool_held_outcome q ys j a b
  same-held a b = alike (λ r l. held_outcome r l a b)

  pub same_missing : pool_missing_outcome p xs i ≡ pool_missing_outcome q ys j
  same_missing = alike missing_octets_outcome

  pub same_sequence : (o : Order) (given : ℕ) → pool_sequence_outcome p xs i o given ≡ pool_sequence_outcome q ys j o given
  same_sequence o given = alike (λ r l. sequence_outcome r l o given)
