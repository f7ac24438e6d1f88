-- What a call answers and leaves at its two ends: the checks refuse and nothing lent changes, or they pass and what is behind them
-- decides. `v` is what the function of the checks answered.
use Rattle.std.specs.Prelude.{Result, Ok, Err, ⊤}
use mathlib.Core.Path.{◌≡◌, refl, sym, ap, ◌∙◌}
use mathlib.Core.Bool.{Bool, true, false, cond}
use mathlib.Core.List.{List, [], ◌∷◌}
use Prim.Native.Nat.{ℕ}
use Rattle.outcomes.specs.Outcome.{Outcome, accepted, lent}
use Rattle.outcomes.specs.Refusal.{refusing}
use Rattle.outcomes.specs.Checks.{Check, first_of, NoneOf, verdict_case}
use Rattle.outcomes.specs.declared.Refusal.{Refusal}
use Rattle.outcomes.proofs.FirstOf.{first-refused, first-none, none_of}
use Rattle.outcomes.proofs.Refusals.{lent-refused}

pub checks-passed : (cs : List Check) (v : Result ⊤ Refusal) → verdict_case v ≡ first_of cs (accepted []) → v ≡ (Ok tt) → NoneOf cs
checks-passed cs v e f = none_of cs (ap verdict_case (sym f) ∙ e)

pub checks-refused : (cs : List Check) (behind : Outcome) (v : Result ⊤ Refusal) (r : Refusal) → verdict_case v ≡ first_of cs (accepted []) → v ≡ Err r
    → refusing r ≡ first_of cs behind
checks-refused cs behind v r e f = first-refused cs r behind (ap verdict_case (sym f) ∙ e)

-- the same with what is lent
pub refused_end : {A : Type 0} (cs : List Check) (behind : Outcome) (v : Result ⊤ Refusal) (r : Refusal) (new old : A)
    → verdict_case v ≡ first_of cs (accepted []) → v ≡ Err r
    → (refusing r ≡ first_of cs behind) × (old ≡ lent (first_of cs behind) new old)
refused_end cs behind v r new old e f =
    let g = checks-refused cs behind v r e f in
    (g, sym (lent-refused r new old) ∙ ap (λ (o : Outcome). lent o new old) g)

pub passed-end : {A : Type 0} (cs : List Check) (behind o : Outcome) (new old : A) → NoneOf cs → o ≡ behind
    → (o ≡ first_of cs behind) × (lent o new old ≡ lent (first_of cs behind) new old)
passed-end cs behind o new old n e =
    let g : o ≡ first_of cs behind = e ∙ sym (first-none cs behind n) in
    (g, ap (λ (o : Outcome). lent o new old) g)

-- no test of the list gives the number k
abbrev pub Other : ℕ → List Check → Type 0
Other k [] = Unit {0}
Other k (c ∷ cs) = ((refusing c.1).number ≡ k → ⊥) × Other k cs

-- where the outcome has the number k, no such test is met
pub none_other : (k : ℕ) (cs : List Check) (behind : Outcome) → Other k cs → (first_of cs behind).number ≡ k → NoneOf cs
none_other k [] behind o e = tt
none_other k (c ∷ cs) behind o e = let w = unmet c.0 c.1 (first_of cs behind) o.0 e in (w.0, none_other k cs behind o.1 w.1)
  where
    unmet : (t : Bool) (q : Refusal) (p : Outcome) → ((refusing q).number ≡ k → ⊥) → (cond t (refusing q) p).number ≡ k → (t ≡ false) × (p.number ≡ k)
    unmet true q p n f = absurd (n f)
    unmet false q p n f = (refl, f)
