-- The requests of a NAK, one after the other.
use mathlib.Core.Path.{◌≡◌, refl, sym, ap}
use mathlib.Core.Bool.{Bool, true, false, cond, ◌&&◌, not}
use mathlib.Core.List.{List, ◌∷◌}
use Prim.Native.Nat.{ℕ}
use native.Mathlib.Omega.{arith}
use lib.Dec.{eqb, ltb}
use lib.ListN.{get_or}
use Rattle.ranges.specs.Range.{Range, range}
use Rattle.outcomes.specs.Answered.{yes_or_no}
use Rattle.outcomes.specs.Outcome.{Outcome, accepted}
use Rattle.outcomes.specs.Checks.{first_of}
use Rattle.outcomes.specs.Refusal.{refusing}
use Rattle.outcomes.specs.declared.Refusal.{Refusal}
use Rattle.outcomes.specs.declared.Refusal.TheVariants as refusal
use Rattle.outcomes.proofs.Refusals.{no_refusal}
use Rattle.nak.specs.Request.{is_metadata, request_checks, checks_from}

-- two tests, and what is behind them
refuses : (t u : Bool) (p q r : Refusal) (o behind : Outcome) → (refusing r ≡ o → ⊥) → refusing r ≡ cond t (refusing p) (cond u (refusing q) o)
    → cond t (refusing p) (cond u (refusing q) behind) ≡ refusing r
refuses true u p q r o behind n e = sym e
refuses false true p q r o behind n e = sym e
refuses false false p q r o behind n e = absurd (n e)

told : (a b : Bool) → accepted (yes_or_no a) ≡ accepted (yes_or_no b) → a ≡ b
told true true e = refl
told true false e = absurd (omega (arith, ap (λ (o : Outcome). get_or o.values 0 0) e))
told false true e = absurd (omega (arith, ap (λ (o : Outcome). get_or o.values 0 0) e))
told false false e = refl

passes : (t u : Bool) (p q : Refusal) (a b : Bool) (behind : Outcome) → accepted (yes_or_no a) ≡ cond t (refusing p) (cond u (refusing q) (accepted (yes_or_no b)))
    → (cond t (refusing p) (cond u (refusing q) behind) ≡ behind) × (a ≡ b)
passes true u p q a b behind e = absurd (no_refusal p (sym e))
passes false true p q a b behind e = absurd (no_refusal q (sym e))
passes false false p q a b behind e = (refl, told a b e)

-- what a list says whose first request is refused
pub refused_one : {rs qs : List Range} {s e : ℕ} (none : Bool) (r : Refusal) (behind : Outcome) → rs ≡ range s e ∷ qs
    → refusing r ≡ first_of (request_checks none (range s e)) (accepted (yes_or_no (none && not (is_metadata (range s e)))))
    → first_of (checks_from none rs) behind ≡ refusing r
refused_one {qs = qs} {s = s} {e = e} none r behind h k =
    let after = none && not (is_metadata (range s e)) in
    rw h (refuses (ltb e s) (eqb s e && not (none && is_metadata (range s e))) (refusal.StartLargerThanEnd s e) refusal.EmptySegment r (accepted (yes_or_no after))
    (first_of (checks_from after qs) behind) (no_refusal r) k)

-- and where it is passed: `after` says whether there is none for metadata up to it
pub passed_one : {rs qs : List Range} {s e : ℕ} (none after : Bool) (behind : Outcome) → rs ≡ range s e ∷ qs
    → accepted (yes_or_no after) ≡ first_of (request_checks none (range s e)) (accepted (yes_or_no (none && not (is_metadata (range s e)))))
    → first_of (checks_from none rs) behind ≡ first_of (checks_from after qs) behind
passed_one {qs = qs} {s = s} {e = e} none after behind h k =
    let w = passes (ltb e s) (eqb s e && not (none && is_metadata (range s e))) (refusal.StartLargerThanEnd s e) refusal.EmptySegment after (none && not (is_metadata (range s e)))
    (first_of (checks_from (none && not (is_metadata (range s e))) qs) behind) k in
    rw (h, w.1) w.0
