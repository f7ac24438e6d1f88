-- No two answers of a call have one outcome, so each call's statement allows one answer.
use Rattle.std.specs.Prelude.{Result, Ok, Err}
use mathlib.Core.Path.{◌≡◌, refl, ap}
use mathlib.Core.Bool.{Bool, true, false, cond}
use Prim.Native.Nat.{ℕ}
use lib.Dec.{eqb}
use Rattle.outcomes.specs.Outcome.{Outcome}
use Rattle.outcomes.specs.declared.Refusal.{Refusal}
use Rattle.outcomes.proofs.Refusals.{value, refusal_back, refusal-back, refuses}
use Rattle.outcomes.proofs.Apart.{apart}
use Rattle.outcomes.proofs.Answered.{one-itself}
use Rattle.holding.specs.Held.{held_case}
use Rattle.holding.specs.MissingOctets.{missing_octets_case}

-- By the outcomes of yes and of no themselves, whatever words give them.
abbrev held_back : Outcome → Result Bool Refusal
held_back o = cond (eqb o.number 0) (Ok (eqb (value 0 o) 1)) (Err (refusal_back o))

held-back : (r : Result Bool Refusal) → held_back (held_case r) ≡ r
held-back (Ok true) = refl
held-back (Ok false) = refl
held-back (Err r) = rw (refuses r) (ap (λ (q : Refusal). Err q) (refusal-back r))

pub one-held : (r s : Result Bool Refusal) → held_case r ≡ held_case s → r ≡ s
one-held = apart held_case held_back held-back

pub one-missing_octets : (r s : Result ℕ Refusal) → missing_octets_case r ≡ missing_octets_case s → r ≡ s
one-missing_octets = one-itself
