-- Two answers with one outcome are equal, if the numbers of an accepted value tell it: so a statement by outcomes allows one answer.
use mathlib.Core.Path.{◌≡◌, refl, sym, ap, ◌∙◌}
use mathlib.Core.Bool.{Bool, true, false, cond}
use mathlib.Core.List.{List, []}
use Prim.Native.Nat.{ℕ}
use lib.Dec.{eqb}
use lib.ListN.{get_or}
use Rattle.std.specs.Prelude.{Result, Ok, Err, ⊤, IsErrAnd, Some, None, ok_or}
use Rattle.std.proofs.lemmas.Result.{err_from_is_err_and}
use Rattle.outcomes.specs.Outcome.{Outcome, accepted, lent}
use Rattle.outcomes.specs.Refusal.{refusing}
use Rattle.outcomes.specs.Answered.{answered, nothing, itself, yes_or_no}
use Rattle.outcomes.specs.declared.Refusal.{Refusal}
use Rattle.outcomes.proofs.Refusals.{one-refusal, no_refusal, lent-refused}

module _ {A : Type 0} (values : A → List ℕ) (back : List ℕ → A) (told : (a : A) → back (values a) ≡ a) where
  pub one-answer : (r s : Result A Refusal) → answered values r ≡ answered values s → r ≡ s
  one-answer (Ok a) (Ok b) e = ap Ok (sym (told a) ∙ ap (λ (o : Outcome). back o.values) e ∙ told b)
  one-answer (Ok a) (Err s) e = absurd (no_refusal s (sym e))
  one-answer (Err r) (Ok b) e = absurd (no_refusal r e)
  one-answer (Err r) (Err s) e = ap Err (one-refusal r s e)

pub one-nothing : (r s : Result ⊤ Refusal) → answered nothing r ≡ answered nothing s → r ≡ s
one-nothing = one-answer nothing (λ vs. tt) (λ u. refl)

pub one-itself : (r s : Result ℕ Refusal) → answered itself r ≡ answered itself s → r ≡ s
one-itself = one-answer itself (λ vs. get_or vs 0 0) (λ n. refl)

pub one-yes_or_no : (r s : Result Bool Refusal) → answered yes_or_no r ≡ answered yes_or_no s → r ≡ s
one-yes_or_no = one-answer yes_or_no (λ vs. eqb (get_or vs 0 0) 1) told
  where
    told : (b : Bool) → eqb (get_or (yes_or_no b) 0 0) 1 ≡ b
    told true = refl
    told false = refl

-- What a `?` hands on: the refusal itself.
pub handed_on : {A : Type 0} (values : A → List ℕ) (o : Result A Refusal) (r : Refusal) → IsErrAnd o (λ q. q ≡ r) → answered values o ≡ refusing r
handed_on values o r h = let p = err_from_is_err_and o h in rw (p.1, p.2)

-- Where there is no value if the test is met, `ok_or` gives the refusal; and what is lent is then as it was.
pub or_refused : {A : Type 0} (values : A → List ℕ) (t : Bool) (a : A) (r : Refusal)
    → answered values (ok_or (cond t None (Some a)) r) ≡ cond t (refusing r) (accepted (values a))
or_refused values true a r = refl
or_refused values false a r = refl

pub or_lent : {A : Type 0} (t : Bool) (r : Refusal) (vs : List ℕ) (new old : A) → cond t old new ≡ lent (cond t (refusing r) (accepted vs)) new old
or_lent true r vs new old = sym (lent-refused r new old)
or_lent false r vs new old = refl

-- and so the refusal that a `?` then hands on is that one.
pub or_none : {A : Type 0} (r q : Refusal) → ◌≡◌ {A = Result A Refusal} (Err r) (ok_or None q) → refusing r ≡ refusing q
or_none r q e = ap (answered (λ a. [])) e
