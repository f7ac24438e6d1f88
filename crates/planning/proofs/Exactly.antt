-- A plan is accepted exactly if the checks pass and it fits; and what its refusals say.
use mathlib.Core.Path.{◌≡◌, refl, ap, ◌∙◌}
use mathlib.Core.Bool.{Bool, true, false, ◌&&◌, not}
use mathlib.Core.List.{List, [], ◌∷◌, ◌++◌}
use mathlib.Core.Logic.{◌⊎◌, inl, inr, ⊎_elim, ◌↔◌}
use Prim.Native.Nat.{ℕ, zero, suc, ◌+◌, ◌≤◌, ◌<◌}
use native.Mathlib.Omega.{arith}
use native.Mathlib.Decide.{dec_lt}
use native.Mathlib.Nat.{eq-or-lt_of_le}
use lib.Dec.{eqb}
use borrow.Author.Tests.{eqb-true, eq-eqb, not-false, ltb-false, le-ltb}
use Rattle.ranges.specs.Range.{Range, Covers, inside}
use Rattle.ranges.specs.Store.{counted}
use Rattle.ranges.proofs.Test.{and_true}
use Rattle.ranges.proofs.Some.{inside_true}
use Rattle.ranges.proofs.Covering.{covers_append, append_covers}
use Rattle.outcomes.specs.Outcome.{Outcome, accepted}
use Rattle.outcomes.specs.Checks.{first_of, NoneOf}
use Rattle.outcomes.proofs.FirstOf.{first-accepted, first-none}
use Rattle.nak.specs.declared.Identity.{Identity}
use Rattle.nak.specs.Request.{is_metadata, metadata_asked}
use Rattle.reception.specs.declared.Reception.{Reception}
use Rattle.planning.specs.Plan.{Plan, pdus, read_in, identity_in, scope_of, requests_of, asked_before, asked}
use Rattle.planning.specs.Tests.{is_unread, same_identity, is_other, is_outside, is_beyond, is_repeat, is_unwanted, is_left_out, wanted, is_too_often, is_absent, plan_tests}
use Rattle.planning.specs.Check.{plan_checks, plan_outcome}
use Rattle.planning.specs.Fits.{Within, Fits}
use Rattle.planning.proofs.Firsts.{passes, pass}
use Rattle.planning.proofs.Offsets.{none-some, none_more}
use Rattle.planning.proofs.Once.{asked-once}

-- test 1
read_is : (n : ℕ) → not (eqb n 0) ≡ false → n ≡ 0
read_is n e = eqb-true n 0 (not-false _ e)

-- test 2
abbrev identity_of : ℕ → ℕ → ℕ → ℕ → ℕ → Identity
identity_of i q s n t = record { entity_length = i; number_length = q; source = s; number = n; destination = t }

same-is : (c d : Identity) → same_identity c d ≡ true → c ≡ d
same-is c d e =
    let p = and_true _ _ e in
    let q = and_true _ _ p.1 in
    let r = and_true _ _ q.1 in
    let s = and_true _ _ r.1 in
    let a = eqb-true c.entity_length d.entity_length p.0 in
    let b = eqb-true c.number_length d.number_length q.0 in
    let f = eqb-true c.source d.source r.0 in
    let g = eqb-true c.number d.number s.0 in
    let h = eqb-true c.destination d.destination s.1 in
    ap (λ (x : ℕ). identity_of x c.number_length c.source c.number c.destination) a
    ∙ ap (λ (x : ℕ). identity_of d.entity_length x c.source c.number c.destination) b
    ∙ ap (λ (x : ℕ). identity_of d.entity_length d.number_length x c.number c.destination) f
    ∙ ap (λ (x : ℕ). identity_of d.entity_length d.number_length d.source x c.destination) g
    ∙ ap (λ (x : ℕ). identity_of d.entity_length d.number_length d.source d.number x) h

is_same : (c d : Identity) → c ≡ d → same_identity c d ≡ true
is_same c d e =
    ap (λ (x : Identity). same_identity x d) e
    ∙ rw (eq-eqb d.entity_length _ refl, eq-eqb d.number_length _ refl, eq-eqb d.source _ refl, eq-eqb d.number _ refl, eq-eqb d.destination _ refl)

-- test 3
within-is : (q r : Range) → is_outside q r ≡ false → is_metadata r ≡ false → Within r q
within-is q r e m = (inside_true r.start r.end q).0 (not-false _ (rw m at e))

is_within : (q r : Range) → (is_metadata r ≡ false → Within r q) → is_outside q r ≡ false
is_within q r f = go (is_metadata r) refl
  where
    go : (u : Bool) → is_metadata r ≡ u → (not u && not (inside r.start r.end q)) ≡ false
    go true e = refl
    go false e = ap not ((inside_true r.start r.end q).1 (f e))

-- tests 5 and 6, over the PDUs before PDU k
pub each_covers : (p : Plan) (ms : List Range) (k : ℕ) → ((j : ℕ) → j < k → is_unwanted p ms j ≡ false) → (x : ℕ) → Covers x (asked_before p k) → Covers x ms
each_covers p ms zero f x h = absurd h
each_covers p ms (suc k) f x h =
    ⊎_elim
    (λ g. each_covers p ms k (λ j l. f j (omega arith)) x g)
    (λ g. (none_more ms (requests_of p k)).0 (f k (omega arith)) x g)
    (covers_append x (asked_before p k) (requests_of p k) h)

pub covers_each : (p : Plan) (k j x : ℕ) → j < k → Covers x (requests_of p j) → Covers x (asked_before p k)
covers_each p zero j x l h = absurd (omega arith)
covers_each p (suc k) j x l h = append_covers x (asked_before p k) (requests_of p k) (go (dec_lt j k) (λ m. covers_each p k j x m h))
  where
    go : Dec (j < k) → (j < k → Covers x (asked_before p k)) → Covers x (asked_before p k) ⊎ Covers x (requests_of p k)
    go (yes m) i = inl (i m)
    go (no m) i = let e : j ≡ k = omega arith in inr (rw e at h)

pub metadata-append : (rs qs : List Range) → metadata_asked (rs ++ qs) ≡ metadata_asked rs + metadata_asked qs
metadata-append [] qs = omega arith
metadata-append (r ∷ rs) qs = let i = metadata-append rs qs in omega arith

metadata-more : (p : Plan) (k n : ℕ) → k ≤ n → metadata_asked (asked_before p k) ≤ metadata_asked (asked_before p n)
metadata-more p k zero h = let e : k ≡ 0 = omega arith in rw e (omega arith)
metadata-more p k (suc n) h =
    ⊎_elim
    (λ (e : k ≡ suc n). rw e (omega arith))
    (λ (l : k < suc n). let i = metadata-more p k n (omega arith) in let a = metadata-append (asked_before p n) (requests_of p n) in omega arith)
    (eq-or-lt_of_le {n = k} {m = suc n} h)

not_often : (p : Plan) (w n : ℕ) → ((k : ℕ) → k < n → is_too_often p w k ≡ false) → metadata_asked (asked_before p n) ≤ w
not_often p w zero f = omega arith
not_often p w (suc n) f = ltb-false w _ (f n (omega arith))

module _ (rec : Reception) (xs : List ℕ) (d : Identity) (p : Plan) where
  -- the tests pass exactly if the plan fits
  pub tests_fit : NoneOf (plan_tests rec xs d p) → Fits rec xs d p
  tests_fit t =
      let t1 = passes (pdus p) (is_unread p) false t.0 in
      let t2 = passes (pdus p) (is_other p d) false t.1.0 in
      let t3 = passes (pdus p) (is_beyond p) false t.1.1.0 in
      let t4 = passes (pdus p) (is_repeat p) false t.1.1.1.0 in
      let t5 = passes (pdus p) (is_unwanted p (counted xs rec.count)) (is_left_out p (counted xs rec.count)) t.1.1.1.1.0 in
      let t6 = passes (pdus p) (is_too_often p (wanted rec)) (is_absent p (wanted rec)) t.1.1.1.1.1.0 in
      let most : metadata_asked (asked p) ≤ wanted rec = not_often p (wanted rec) (pdus p) t6.0 in
      let least : wanted rec ≤ metadata_asked (asked p) = ltb-false _ _ t6.1 in
      record {
        reads = λ k h. read_is (read_in p k).refusal (t1.0 k h);
        identity = λ k h. same-is (identity_in p k) d (not-false _ (t2.0 k h));
        within = λ k h r m n. within-is (scope_of p k) r ((none-some (is_outside (scope_of p k)) (requests_of p k)).0 (t3.0 k h) r m) n;
        once = (asked-once p (pdus p)).0 t4.0;
        union = λ x. (each_covers p (counted xs rec.count) (pdus p) t5.0 x, (none_more (asked p) (counted xs rec.count)).0 t5.1 x);
        metadata = omega arith;
      }

  pub fit_tests : Fits rec xs d p → NoneOf (plan_tests rec xs d p)
  fit_tests f =
      let t1 = pass (pdus p) (is_unread p) false (λ k h. ap not (eq-eqb (read_in p k).refusal 0 (f.reads k h))) refl in
      let t2 = pass (pdus p) (is_other p d) false (λ k h. ap not (is_same (identity_in p k) d (f.identity k h))) refl in
      let t3 =
      pass (pdus p) (is_beyond p) false
      (λ k h. (none-some (is_outside (scope_of p k)) (requests_of p k)).1 (λ r m. is_within (scope_of p k) r (f.within k h r m))) refl in
      let t4 = pass (pdus p) (is_repeat p) false ((asked-once p (pdus p)).1 f.once) refl in
      let t5 =
      pass (pdus p) (is_unwanted p (counted xs rec.count)) (is_left_out p (counted xs rec.count))
      (λ k h. (none_more (counted xs rec.count) (requests_of p k)).1 (λ x g. (f.union x).0 (covers_each p (pdus p) k x h g)))
      ((none_more (asked p) (counted xs rec.count)).1 (λ x g. (f.union x).1 g)) in
      let m = f.metadata in
      let t6 =
      pass (pdus p) (is_too_often p (wanted rec)) (is_absent p (wanted rec))
      (λ k h. le-ltb (wanted rec) (metadata_asked (asked_before p (suc k))) (let i = metadata-more p (suc k) (pdus p) (omega arith) in omega arith))
      (le-ltb (metadata_asked (asked p)) (wanted rec) (omega arith)) in
      (t1, (t2, (t3, (t4, (t5, (t6, tt))))))

  -- and so the answer is that it fits exactly if the checks pass and it does
  pub accepted_exactly : (given : ℕ) → (plan_outcome rec xs d p given ≡ accepted []) ↔ (NoneOf (plan_checks rec xs d p given) × Fits rec xs d p)
  accepted_exactly given = (
    λ e.
        let w = first-accepted (plan_checks rec xs d p given) (first_of (plan_tests rec xs d p) (accepted [])) (eq-eqb _ 0 (ap (λ (o : Outcome). o.number) e)) in
        let v = first-accepted (plan_tests rec xs d p) (accepted []) w.1 in
        (w.0, tests_fit v.0),
    λ h.
        first-none (plan_checks rec xs d p given) (first_of (plan_tests rec xs d p) (accepted [])) h.0
        ∙ first-none (plan_tests rec xs d p) (accepted []) (fit_tests h.1),
  )
