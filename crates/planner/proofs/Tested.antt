-- A test over all PDUs: what it answers by the first PDU at fault, and what comes behind it.
use mathlib.Core.Path.{◌≡◌, refl, sym, ap, ◌∙◌}
use mathlib.Core.Bool.{Bool, true, false, ◌||◌}
use mathlib.Core.List.{List, [], ◌∷◌}
use Prim.Native.Nat.{ℕ, ◌≤◌, ◌<◌}
use native.Mathlib.Omega.{arith}
use lib.Dec.{ltb}
use borrow.Author.Tests.{lt-ltb, le-ltb}
use Rattle.std.specs.Prelude.{Option, Some, None, unwrap_or}
use Rattle.ranges.specs.Store.{counted}
use Rattle.outcomes.specs.Outcome.{Outcome, accepted}
use Rattle.outcomes.specs.Refusal.{refusing}
use Rattle.outcomes.specs.Checks.{Check, first_of}
use Rattle.outcomes.specs.declared.Refusal.TheVariants as refusal
use Rattle.nak.specs.declared.Identity.{Identity}
use Rattle.reception.specs.declared.Reception.{Reception}
use Rattle.planning.specs.Plan.{Plan, pdus}
use Rattle.planning.specs.Tests.{first_below, is_unread, is_other, is_beyond, is_repeat, is_unwanted, is_left_out, is_too_often, is_absent, wanted, test, plan_tests}
use Rattle.plan_passes.specs.Pdus.{IsFirst}

module _ (i n : ℕ) (fault : ℕ → Bool) (lacks : Bool) (k : ℕ) (cs : List Check) (o : Outcome) (e : k ≡ first_below fault n) where
  -- the test is met
  pub met : (ltb (first_below fault n) n || lacks) ≡ true → refusing (refusal.BadPlan i k) ≡ first_of (test i n fault lacks ∷ cs) o
  met t = rw t (ap (λ (j : ℕ). refusing (refusal.BadPlan i j)) e)

  -- a PDU is at fault
  pub at_fault : k < n → refusing (refusal.BadPlan i k) ≡ first_of (test i n fault lacks ∷ cs) o
  at_fault l = met (rw (← e, lt-ltb k n l))

  -- none is
  none-at : n ≤ k → (ltb (first_below fault n) n || lacks) ≡ lacks
  none-at l = rw (← e, le-ltb k n l)

  pub lacking : n ≤ k → lacks ≡ true → refusing (refusal.BadPlan i k) ≡ first_of (test i n fault lacks ∷ cs) o
  lacking l t = met (none-at l ∙ t)

  pub past : n ≤ k → lacks ≡ false → first_of (test i n fault lacks ∷ cs) o ≡ first_of cs o
  past l t = rw (none-at l ∙ t)

-- the first PDU at fault, or the number of PDUs
pub number-of : (t : ℕ → Bool) (n : ℕ) {u : ℕ} (r : Option ℕ) → IsFirst t n r → u ≡ unwrap_or r n → u ≡ first_below t n
number-of t n None h e = e ∙ sym h
number-of t n (Some k) h e = e ∙ h.0

-- where a test finds no PDU at fault
none-past : (i n : ℕ) (fault : ℕ → Bool) (cs : List Check) → first_below fault n ≡ n → first_of (test i n fault false ∷ cs) (accepted []) ≡ first_of cs (accepted [])
none-past i n fault cs e = past i n fault false n cs (accepted []) (sym e) (omega arith) refl

module _ (rec : Reception) (xs : List ℕ) (d : Identity) (p : Plan) where
  -- the tests behind the fifth, the fourth and so on
  abbrev pub behind5 : List Check
  behind5 = test 6 (pdus p) (is_too_often p (wanted rec)) (is_absent p (wanted rec)) ∷ []

  abbrev pub behind4 : List Check
  behind4 = test 5 (pdus p) (is_unwanted p (counted xs rec.count)) (is_left_out p (counted xs rec.count)) ∷ behind5

  abbrev pub behind3 : List Check
  behind3 = test 4 (pdus p) (is_repeat p) false ∷ behind4

  abbrev pub behind2 : List Check
  behind2 = test 3 (pdus p) (is_beyond p) false ∷ behind3

  abbrev pub behind1 : List Check
  behind1 = test 2 (pdus p) (is_other p d) false ∷ behind2

  -- what all say, where the first finds nothing, the first two and so on
  abbrev pub all : Outcome
  all = first_of (plan_tests rec xs d p) (accepted [])

  module _ (f1 : first_below (is_unread p) (pdus p) ≡ pdus p) where
    pub past1 : all ≡ first_of behind1 (accepted [])
    past1 = none-past 1 (pdus p) (is_unread p) behind1 f1

    module _ (f2 : first_below (is_other p d) (pdus p) ≡ pdus p) where
      pub past2 : all ≡ first_of behind2 (accepted [])
      past2 = past1 ∙ none-past 2 (pdus p) (is_other p d) behind2 f2

      module _ (f3 : first_below (is_beyond p) (pdus p) ≡ pdus p) where
        pub past3 : all ≡ first_of behind3 (accepted [])
        past3 = past2 ∙ none-past 3 (pdus p) (is_beyond p) behind3 f3

        module _ (f4 : first_below (is_repeat p) (pdus p) ≡ pdus p) where
          pub past4 : all ≡ first_of behind4 (accepted [])
          past4 = past3 ∙ none-past 4 (pdus p) (is_repeat p) behind4 f4

          pub past5 : (ltb (first_below (is_unwanted p (counted xs rec.count)) (pdus p)) (pdus p) || is_left_out p (counted xs rec.count)) ≡ false → all ≡ first_of behind5 (accepted [])
          past5 t = past4 ∙ rw t
