-- A call's checks behind 23 and 10. The code leaves the record of the transfer that is named to its own checks, which begin with 10; the
-- definition asks for the 10 of every transfer first. Both say the same.
use mathlib.Core.Path.{◌≡◌, refl, sym, ap, ◌∙◌}
use mathlib.Core.Bool.{Bool, true, false, cond}
use mathlib.Core.List.{List, [], ◌++◌}
use Prim.Native.Nat.{ℕ, ◌<◌}
use lib.Dec.{eqb}
use borrow.Author.Tests.{eqb-true}
use Rattle.outcomes.specs.Outcome.{Outcome, accepted}
use Rattle.outcomes.specs.Refusal.{refusing}
use Rattle.outcomes.specs.Checks.{Check, first_of}
use Rattle.outcomes.specs.declared.Refusal.{Refusal}
use Rattle.outcomes.specs.declared.Refusal.TheVariants as refusal
use Rattle.outcomes.proofs.FirstOf.{first-refused, first-append, first-none, none_of}
use Rattle.reception.specs.Record.{record_checks}
use Rattle.pooling.specs.declared.Pool.{Pool}
use Rattle.pooling.specs.Pool.{record_at, any_below}
use Rattle.pooling.specs.Share.{own_part, is_unknown, is_bad_share, is_bad_transfer, pool_checks}
use Rattle.pooling.proofs.Sums.{some_any, any_same}
use Rattle.sharing.specs.Inner.{is_bad_other, other_checks}

-- where the one named is not 10, 10 of the others is 10 of all
others : (p : Pool) (xs : List ℕ) (i : ℕ) → is_bad_transfer p xs i ≡ false → any_below (is_bad_other p xs i) p.used ≡ any_below (is_bad_transfer p xs) p.used
others p xs i e = any_same (is_bad_other p xs i) (is_bad_transfer p xs) p.used (λ k l. go k (eqb k i) refl)
  where
    go : (k : ℕ) (t : Bool) → eqb k i ≡ t → is_bad_other p xs i k ≡ is_bad_transfer p xs k
    go k true f = let q : k ≡ i = eqb-true _ _ f in rw f (sym (ap (is_bad_transfer p xs) q ∙ e))
    go k false f = rw f

-- 10 either way
ten_twice : (t : Bool) → cond t (refusing refusal.BadStore) (refusing refusal.BadStore) ≡ refusing refusal.BadStore
ten_twice true = refl
ten_twice false = refl

-- ys is the list that the definition has for the transfer's record
module _ (p : Pool) (xs ys : List ℕ) (i : ℕ) (same : is_unknown p xs i ≡ false → is_bad_share p xs ≡ false → record_checks (record_at p i) ys ≡ record_checks (record_at p i) (own_part p xs i))
    (known : is_unknown p xs i ≡ false → i < p.used) where
  pub judged : (cs : List Check) (behind : Outcome)
      → first_of (other_checks p xs i) (first_of (record_checks (record_at p i) (own_part p xs i) ++ cs) behind)
      ≡ first_of (pool_checks p xs i) (first_of (record_checks (record_at p i) ys ++ cs) behind)
  judged cs behind = go (is_unknown p xs i) refl (is_bad_share p xs) refl (is_bad_transfer p xs i) refl
    where
      go : (u : Bool) → is_unknown p xs i ≡ u → (s : Bool) → is_bad_share p xs ≡ s → (b : Bool) → is_bad_transfer p xs i ≡ b
          → first_of (other_checks p xs i) (first_of (record_checks (record_at p i) (own_part p xs i) ++ cs) behind)
          ≡ first_of (pool_checks p xs i) (first_of (record_checks (record_at p i) ys ++ cs) behind)
      go true e s f b g = rw e
      go false e true f b g = rw (e, f)
      go false e false f true g =
          let a : any_below (is_bad_transfer p xs) p.used ≡ true = some_any (is_bad_transfer p xs) i p.used (known e) g in
          rw (e, f, a, g) (ten_twice (any_below (is_bad_other p xs i) p.used))
      go false e false f false g =
          rw (e, f, others p xs i g)
          (ap (λ (rs : List Check). cond (any_below (is_bad_transfer p xs) p.used) (refusing refusal.BadStore) (first_of (rs ++ cs) behind)) (sym (same e f)))

  -- the checks before refuse
  pub refused-before : (cs : List Check) (behind : Outcome) (r : Refusal) → refusing r ≡ first_of (other_checks p xs i) (accepted [])
      → refusing r ≡ first_of (pool_checks p xs i ++ (record_checks (record_at p i) ys ++ cs)) behind
  refused-before cs behind r e =
      first-refused (other_checks p xs i) r (first_of (record_checks (record_at p i) (own_part p xs i) ++ cs) behind) e
      ∙ judged cs behind
      ∙ sym (first-append (pool_checks p xs i) (record_checks (record_at p i) ys ++ cs) behind)

  -- they pass
  pub passed-before : (cs : List Check) (behind o : Outcome) → accepted [] ≡ first_of (other_checks p xs i) (accepted [])
      → o ≡ first_of (record_checks (record_at p i) (own_part p xs i) ++ cs) behind
      → o ≡ first_of (pool_checks p xs i ++ (record_checks (record_at p i) ys ++ cs)) behind
  passed-before cs behind o e g =
      g
      ∙ sym (first-none (other_checks p xs i) (first_of (record_checks (record_at p i) (own_part p xs i) ++ cs) behind) (none_of (other_checks p xs i) e))
      ∙ judged cs behind
      ∙ sym (first-append (pool_checks p xs i) (record_checks (record_at p i) ys ++ cs) behind)
