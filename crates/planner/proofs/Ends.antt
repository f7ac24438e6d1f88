-- What the call answers and what the lent list is afterwards, by what its checks and its tests say.
use mathlib.Core.Path.{◌≡◌, sym, ap, ap₂, ◌∙◌}
use mathlib.Core.List.{List, [], ◌++◌}
use Prim.Native.Nat.{ℕ, ◌+◌, ◌*◌, ◌-◌, ◌≤◌}
use native.Mathlib.Omega.{arith}
use lib.Dec.{eqb}
use lib.ListN.{length, take, drop, replicate, length-replicate}
use lib.Seq.{take_all}
use borrow.Author.Tests.{eqb-true, ltb-false, not-false}
use Rattle.ranges.specs.Range.{Coalesced}
use Rattle.ranges.specs.Store.{counted, cleared}
use Rattle.ranges.specs.Inner.Moves.{over}
use Rattle.outcomes.specs.Outcome.{Outcome, accepted, lent}
use Rattle.outcomes.specs.Refusal.{refusing}
use Rattle.outcomes.specs.Checks.{NoneOf, first_of}
use Rattle.outcomes.specs.declared.Refusal.{Refusal}
use Rattle.outcomes.proofs.FirstOf.{first-refused, first-none}
use Rattle.outcomes.proofs.Refusals.{lent-refused}
use Rattle.nak.specs.declared.Identity.{Identity}
use Rattle.reception.specs.declared.Reception.{Reception}
use Rattle.reception.specs.Record.{record_checks}
use Rattle.reception.proofs.Sound.{sound, none-split}
use Rattle.planning.specs.Plan.{Plan, pdus}
use Rattle.planning.specs.Tests.{plan_tests}
use Rattle.planning.specs.Check.{most_pdus, sum_of, room_for, proposal_checks, plan_checks, plan_outcome, plan_scratch}

-- the slots for the requests made (0, 0)
cleared_by : (ys zs : List ℕ) (n : ℕ) → drop (2 * n) zs ≡ drop (2 * n) ys → over zs (2 * 0) (2 * n - 2 * 0) (replicate (2 * n - 2 * 0) 0) ≡ cleared n ys
unfolding over
cleared_by ys zs n h =
    let k : 2 * n - 2 * 0 ≡ 2 * n = omega arith in
    let l = length-replicate {A = ℕ} (2 * n) 0 in
    let z : 2 * 0 + 2 * n ≡ 2 * n = omega arith in
    ap (λ (m : ℕ). take (2 * 0) zs ++ take m (replicate {A = ℕ} m 0) ++ drop (2 * 0 + m) zs) k
    ∙ ap₂ (λ (u v : List ℕ). u ++ v) (take_all (2 * n) (replicate {A = ℕ} (2 * n) 0) (omega arith)) (ap (λ (m : ℕ). drop m zs) z ∙ h)

module _ (rec : Reception) (xs : List ℕ) (d : Identity) (p : Plan) (ys : List ℕ) where
  -- a check refuses
  pub refused_by : (r : Refusal) → refusing r ≡ first_of (plan_checks rec xs d p (length ys)) (accepted [])
      → (refusing r ≡ plan_outcome rec xs d p (length ys)) × (ys ≡ plan_scratch rec xs d p ys)
  refused_by r e = (
    first-refused (plan_checks rec xs d p (length ys)) r (first_of (plan_tests rec xs d p) (accepted [])) e,
    sym (lent-refused r (cleared (room_for p.octets) ys) ys) ∙ ap (λ (o : Outcome). lent o (cleared (room_for p.octets) ys) ys) e,
  )

  module _ (n : NoneOf (plan_checks rec xs d p (length ys))) where
    -- what the tests ask for
    pub held-room : 2 * rec.count ≤ length xs
    held-room = (sound xs rec (none-split (record_checks rec xs) (proposal_checks d p (length ys)) n).0).store.room

    pub held_whole : Coalesced (counted xs rec.count)
    held_whole = (sound xs rec (none-split (record_checks rec xs) (proposal_checks d p (length ys)) n).0).whole

    own : NoneOf (proposal_checks d p (length ys))
    own = (none-split (record_checks rec xs) (proposal_checks d p (length ys)) n).1

    pub few : pdus p ≤ most_pdus
    few = ltb-false most_pdus (pdus p) own.1.0

    pub sums : sum_of p ≡ length p.octets
    sums = eqb-true (sum_of p) (length p.octets) (not-false (eqb (sum_of p) (length p.octets)) own.1.1.0)

    pub room : 2 * room_for p.octets ≤ length ys
    room = ltb-false (length ys) (2 * room_for p.octets) own.1.1.1.0

    -- the tests say o, and the slots are made (0, 0)
    pub tested-by : (o : Outcome) (zs us : List ℕ) → o ≡ first_of (plan_tests rec xs d p) (accepted [])
        → drop (2 * room_for p.octets) zs ≡ drop (2 * room_for p.octets) ys
        → us ≡ over zs (2 * 0) (2 * room_for p.octets - 2 * 0) (replicate (2 * room_for p.octets - 2 * 0) 0)
        → (o ≡ plan_outcome rec xs d p (length ys)) × (us ≡ plan_scratch rec xs d p ys)
    tested-by o zs us e h u = (
      e ∙ sym (first-none (plan_checks rec xs d p (length ys)) (first_of (plan_tests rec xs d p) (accepted [])) n),
      u
          ∙ cleared_by ys zs (room_for p.octets) h
          ∙ ap (λ (q : Outcome). lent q (cleared (room_for p.octets) ys) ys) (sym (first-none (plan_checks rec xs d p (length ys)) (accepted []) n)),
    )
