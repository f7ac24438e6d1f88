-- Of tests in order: a refusal that they give with nothing behind them they give whatever is behind them, and if they give none, no
-- test is met; if the outcome is accepted, no test is met and the one behind them is accepted.
use mathlib.Core.Path.{◌≡◌, refl, sym, ap, ◌∙◌}
use mathlib.Core.Bool.{Bool, true, false, cond, true≢false}
use mathlib.Core.List.{List, [], ◌∷◌, ◌++◌}
use lib.Dec.{eqb}
use Rattle.outcomes.specs.Outcome.{Outcome, accepted}
use Rattle.outcomes.specs.Refusal.{refusing}
use Rattle.outcomes.specs.Checks.{Check, first_of, NoneOf}
use Rattle.outcomes.specs.declared.Refusal.{Refusal}
use Rattle.outcomes.proofs.Refusals.{refuses, no_refusal}

past : (t : Bool) (q r : Refusal) (o p : Outcome) → (refusing r ≡ o → refusing r ≡ p) → refusing r ≡ cond t (refusing q) o → refusing r ≡ cond t (refusing q) p
past true q r o p f e = e
past false q r o p f e = f e

pub first-refused : (cs : List Check) (r : Refusal) (behind : Outcome) → refusing r ≡ first_of cs (accepted []) → refusing r ≡ first_of cs behind
first-refused [] r behind e = absurd (no_refusal r e)
first-refused (c ∷ cs) r behind e = past c.0 c.1 r (first_of cs (accepted [])) (first_of cs behind) (first-refused cs r behind) e

unmet : (t : Bool) (q : Refusal) (o : Outcome) → accepted [] ≡ cond t (refusing q) o → (t ≡ false) × (accepted [] ≡ o)
unmet true q o e = absurd (no_refusal q (sym e))
unmet false q o e = (refl, e)

pub none_of : (cs : List Check) → accepted [] ≡ first_of cs (accepted []) → NoneOf cs
none_of [] e = tt
none_of (c ∷ cs) e = let w = unmet c.0 c.1 (first_of cs (accepted [])) e in (w.0, none_of cs w.1)

accepts : (t : Bool) (q : Refusal) (o : Outcome) → eqb (cond t (refusing q) o).number 0 ≡ true → (t ≡ false) × (eqb o.number 0 ≡ true)
accepts true q o e = absurd (true≢false (sym e ∙ refuses q))
accepts false q o e = (refl, e)

pub first-accepted : (cs : List Check) (behind : Outcome) → eqb (first_of cs behind).number 0 ≡ true → NoneOf cs × (eqb behind.number 0 ≡ true)
first-accepted [] behind e = (tt, e)
first-accepted (c ∷ cs) behind e =
    let w = accepts c.0 c.1 (first_of cs behind) e in
    let v = first-accepted cs behind w.1 in
    ((w.0, v.0), v.1)

-- tests behind others
pub first-append : (cs ds : List Check) (behind : Outcome) → first_of (cs ++ ds) behind ≡ first_of cs (first_of ds behind)
first-append [] ds behind = refl
first-append (c ∷ cs) ds behind = ap (λ (o : Outcome). cond c.0 (refusing c.1) o) (first-append cs ds behind)

-- where no test is met
pub first-none : (cs : List Check) (behind : Outcome) → NoneOf cs → first_of cs behind ≡ behind
first-none [] behind n = refl
first-none (c ∷ cs) behind n = rw n.0 (first-none cs behind n.1)
