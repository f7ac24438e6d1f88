-- What `held` answers of data before it is accepted says whether the data lowers the missing octets.
use Rattle.std.specs.Prelude.{Result, Ok, Err, MatchResult}
use mathlib.Core.Path.{◌≡◌, refl, sym, ap, ◌∙◌}
use mathlib.Core.Bool.{Bool, true, false, not, cond, true≢false}
use mathlib.Core.List.{List, [], ◌∷◌}
use Prim.Native.Nat.{ℕ, ◌+◌, ◌<◌, ◌^◌}
use native.Mathlib.Omega.{arith}
use lib.Dec.{eqb}
use lib.ListN.{get_or}
use borrow.Author.Tests.{le-leb, le-ltb, lt-ltb, ne_eqb}
use Rattle.ranges.specs.Range.{some, shares}
use Rattle.outcomes.specs.Outcome.{Outcome, accepted}
use Rattle.outcomes.specs.Answered.{yes_or_no}
use Rattle.outcomes.specs.Refusal.{refusing}
use Rattle.outcomes.proofs.Refusals.{no_refusal}
use Rattle.outcomes.specs.declared.Refusal.{Refusal}
use Rattle.reception.specs.declared.Reception.{Reception}
use Rattle.reception.specs.Record.{Passed}
use Rattle.reception.specs.Data.{largest_number}
use Rattle.reception.specs.History.{Data, is_accepted, ranges_of}
use Rattle.reception.proofs.Sound.{behind_record}
use Rattle.reception.proofs.data.Accepted.{taken}
use Rattle.holding.specs.Held.{span_checks, is_held, held_case, held_outcome}
use Rattle.deferring.specs.Hear.{state_of, is_lowered}
use Rattle.deferring.proofs.Lowering.{inside, nonempty, data-lowers}
use Rattle.deferring.proofs.Hearing.{accepted-passed}

module _ (rec : Reception) (xs : List ℕ) (o n : ℕ) (f : is_accepted (state_of rec xs) (Data o n) ≡ true) where
  passed : Passed xs rec
  passed = accepted-passed (state_of rec xs) (Data o n) f

  -- data whose end is above 2^64 - 1 is not accepted
  pub never_long : (o + n < 2 ^ 64 → ⊥) → ⊥
  never_long h = true≢false (sym (lt-ltb largest_number (o + n) (omega arith)) ∙ (taken rec xs o n f).checks.short)

  module _ (sized : rec.sized ≡ true) where
    -- while the metadata is missing nothing is lowered
    pub waits-lowers : rec.missing ≡ true → false ≡ is_lowered (state_of rec xs) (Data o n)
    waits-lowers m = sym (data-lowers (state_of rec xs) passed o n f sized ∙ rw m)

    module _ (m : rec.missing ≡ false) where
      abbrev common : Bool
      common = some (shares o (o + n)) (ranges_of (state_of rec xs))

      answered : held_outcome rec xs o (o + n) ≡ cond (not common) (accepted (1 ∷ [])) (accepted (0 ∷ []))
      answered =
          let h = nonempty (state_of rec xs) passed o n f sized in
          let i = inside (state_of rec xs) passed o n f sized in
          let e : is_held rec xs o (o + n) ≡ not common = rw (m, le-leb (o + n) rec.progress i) in
          sym (behind_record xs rec passed (span_checks o (o + n)) (cond (is_held rec xs o (o + n)) (accepted (1 ∷ [])) (accepted (0 ∷ []))))
          ∙ rw (ne_eqb o (o + n) (λ k. omega arith), le-ltb (o + n) o (omega arith)) (ap (λ (b : Bool). cond b (accepted (1 ∷ [])) (accepted (0 ∷ []))) e)

      -- not all of it is held: it lowers them; else it does not
      pub lost-lowers : (a : Result Bool Refusal) (r : Bool) → held_case a ≡ held_outcome rec xs o (o + n)
          → MatchResult a (λ kept. r ≡ not kept) (λ q. r ≡ false) → r ≡ is_lowered (state_of rec xs) (Data o n)
      lost-lowers a r e w = told a (e ∙ answered) w ∙ sym (data-lowers (state_of rec xs) passed o n f sized ∙ rw m)
        where
          yes : (kept b : Bool) → accepted (yes_or_no kept) ≡ cond (not b) (accepted (1 ∷ [])) (accepted (0 ∷ [])) → not kept ≡ b
          yes true true k = absurd (true≢false (ap (λ (p : Outcome). eqb (get_or p.values 0 0) 1) k))
          yes true false k = refl
          yes false true k = refl
          yes false false k = absurd (true≢false (sym (ap (λ (p : Outcome). eqb (get_or p.values 0 0) 1) k)))

          refused : (q : Refusal) (b : Bool) → refusing q ≡ cond (not b) (accepted (1 ∷ [])) (accepted (0 ∷ [])) → ⊥
          refused q true k = no_refusal q k
          refused q false k = no_refusal q k

          told : (a : Result Bool Refusal) → held_case a ≡ cond (not common) (accepted (1 ∷ [])) (accepted (0 ∷ []))
              → MatchResult a (λ kept. r ≡ not kept) (λ q. r ≡ false) → r ≡ common
          told (Ok kept) k w = w ∙ yes kept common k
          told (Err q) k w = absurd (refused q common k)
