-- A call over a transfer's part, behind the checks of the pool: they refuse, or the call's own outcome is the pool's.
use mathlib.Core.Path.{◌≡◌, refl, sym, ap, ◌∙◌}
use mathlib.Core.Bool.{Bool, true, false}
use mathlib.Core.List.{List, [], ◌++◌}
use Prim.Native.Nat.{ℕ}
use lib.Dec.{eqb}
use Rattle.outcomes.specs.Outcome.{Outcome, accepted, lent}
use Rattle.outcomes.specs.Refusal.{refusing}
use Rattle.outcomes.specs.Checks.{Check, first_of}
use Rattle.outcomes.specs.declared.Refusal.{Refusal}
use Rattle.outcomes.proofs.FirstOf.{first-append}
use Rattle.outcomes.proofs.Refusals.{lent-refused}
use Rattle.reception.specs.Record.{record_checks}
use Rattle.pooling.specs.declared.Pool.{Pool}
use Rattle.pooling.specs.Pool.{record_at}
use Rattle.pooling.specs.Share.{own_part, pool_checks}
use Rattle.pooling.proofs.Own.{known}
use Rattle.sharing.specs.Inner.{other_checks}
use Rattle.sharing.proofs.Judged.{refused-before, passed-before}

module _ (p : Pool) (xs : List ℕ) (i : ℕ) (cs : List Check) (behind : Outcome) where
  -- the outcome of the call over the part
  abbrev over : Outcome
  over = first_of (record_checks (record_at p i) (own_part p xs i) ++ cs) behind

  pub refused-asked : (r : Refusal) → refusing r ≡ first_of (other_checks p xs i) (accepted []) → refusing r ≡ first_of (pool_checks p xs i) over
  refused-asked r e =
      refused-before p xs (own_part p xs i) i (λ u s. refl) (λ u. (known p xs i u).1) cs behind r e
      ∙ first-append (pool_checks p xs i) (record_checks (record_at p i) (own_part p xs i) ++ cs) behind

  pub passed-asked : (o : Outcome) → accepted [] ≡ first_of (other_checks p xs i) (accepted []) → o ≡ over → o ≡ first_of (pool_checks p xs i) over
  passed-asked o e g =
      passed-before p xs (own_part p xs i) i (λ u s. refl) (λ u. (known p xs i u).1) cs behind o e g
      ∙ first-append (pool_checks p xs i) (record_checks (record_at p i) (own_part p xs i) ++ cs) behind

  -- what is lent: as it was, or as the call over the part leaves it
  pub refused-lent : (r : Refusal) → refusing r ≡ first_of (other_checks p xs i) (accepted []) → (new old : List ℕ) → old ≡ lent (first_of (pool_checks p xs i) over) new old
  refused-lent r e new old = sym (lent-refused r new old) ∙ ap (λ (o : Outcome). lent o new old) (refused-asked r e)

  pub passed-lent : accepted [] ≡ first_of (other_checks p xs i) (accepted []) → (new old l : List ℕ) → l ≡ lent over new old
      → l ≡ lent (first_of (pool_checks p xs i) over) (lent over new old) old
  passed-lent e new old l g = g ∙ twice over ∙ ap (λ (o : Outcome). lent o (lent over new old) old) (passed-asked over e refl)
    where
      twice : (o : Outcome) → lent o new old ≡ lent o (lent o new old) old
      twice o = go (eqb o.number 0) refl
        where
          go : (t : Bool) → eqb o.number 0 ≡ t → lent o new old ≡ lent o (lent o new old) old
          go true h = rw h
          go false h = rw h
