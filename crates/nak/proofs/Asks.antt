-- Requests are accepted exactly if each has an offset or asks for metadata, and at most one asks for metadata, at whatever place.
use mathlib.Core.Path.{◌≡◌, refl, sym, ◌∙◌}
use mathlib.Core.Bool.{Bool, true, false, ◌&&◌, not, cond, true≢false}
use mathlib.Core.List.{List, [], ◌∷◌}
use mathlib.Core.Logic.{inl, inr, ⊎_elim, ◌↔◌}
use Prim.Native.Nat.{ℕ, ◌≤◌, ◌<◌}
use native.Mathlib.Omega.{arith}
use lib.Dec.{eqb}
use borrow.Author.Tests.{eq-eqb, ne_eqb, eqb-true, le-ltb, ltb-false}
use Rattle.ranges.specs.Range.{Range}
use Rattle.ranges.proofs.Test.{and_true}
use Rattle.outcomes.specs.Checks.{NoneOf}
use Rattle.nak.specs.Request.{is_metadata, checks_from, requests_checks, metadata_asked, EachAsks}

-- a request for metadata is (0, 0)
both_zero : (r : Range) → is_metadata r ≡ true → (r.start ≡ 0) × (r.end ≡ 0)
both_zero r e = let w = and_true _ _ e in (eqb-true _ _ w.0, eqb-true _ _ w.1)

-- how many may still come
abbrev left : Bool → ℕ
left none = cond none 1 0

to : (none : Bool) (rs : List Range) → NoneOf (checks_from none rs) → EachAsks rs × (metadata_asked rs ≤ left none)
to none [] n = (tt, omega arith)
to none (r ∷ rs) n = go none (is_metadata r) refl (ltb-false _ _ n.0) n.1.0 (to (none && not (is_metadata r)) rs n.1.1)
  where
    apart : r.start ≤ r.end → (eqb r.start r.end && true) ≡ false → r.start < r.end
    apart l k = let n : r.start ≡ r.end → ⊥ = λ q. true≢false (sym (rw (eq-eqb r.start r.end q)) ∙ k) in omega arith

    go : (none m : Bool) → is_metadata r ≡ m → r.start ≤ r.end → (eqb r.start r.end && not (none && is_metadata r)) ≡ false
        → EachAsks rs × (metadata_asked rs ≤ left (none && not (is_metadata r))) → EachAsks (r ∷ rs) × (metadata_asked (r ∷ rs) ≤ left none)
    go true true e l k i = let c = rw e at i.1 in ((inr e, i.0), rw e (omega (arith, c)))
    go false true e l k i =
        let z = both_zero r e in
        let q : eqb r.start r.end ≡ true = eq-eqb _ _ (z.0 ∙ sym z.1) in
        absurd (true≢false (rw q at k))
    go true false e l k i = let c = rw e at i.1 in ((inl (apart l (rw e at k)), i.0), rw e (omega (arith, c)))
    go false false e l k i = let c = i.1 in ((inl (apart l k), i.0), rw e (omega (arith, c)))

from : (none : Bool) (rs : List Range) → EachAsks rs → metadata_asked rs ≤ left none → NoneOf (checks_from none rs)
from none [] a h = tt
from none (r ∷ rs) a h = go none (is_metadata r) refl h (λ c. from (none && not (is_metadata r)) rs a.1 c)
  where
    ordered : r.start ≤ r.end
    ordered = ⊎_elim (λ l. omega arith) (λ e. let z = both_zero r e in omega (arith, z.0, z.1)) a.0

    go : (none m : Bool) → is_metadata r ≡ m → metadata_asked (r ∷ rs) ≤ left none
        → (metadata_asked rs ≤ left (none && not (is_metadata r)) → NoneOf (checks_from (none && not (is_metadata r)) rs))
        → NoneOf (checks_from none (r ∷ rs))
    go true true e h i =
        let c = rw e at h in
        let z = both_zero r e in
        (le-ltb _ _ ordered, (rw (eq-eqb r.start r.end (z.0 ∙ sym z.1), e), i (rw e (omega (arith, c)))))
    go false true e h i = let c = rw e at h in absurd (omega (arith, c))
    go true false e h i =
        let c = rw e at h in
        let l : r.start < r.end = ⊎_elim (λ l. l) (λ q. absurd (true≢false (sym q ∙ e))) a.0 in
        (le-ltb _ _ ordered, (rw (ne_eqb r.start r.end (λ q. omega arith)), i (rw e (omega (arith, c)))))
    go false false e h i =
        let c = rw e at h in
        let l : r.start < r.end = ⊎_elim (λ l. l) (λ q. absurd (true≢false (sym q ∙ e))) a.0 in
        (le-ltb _ _ ordered, (rw (ne_eqb r.start r.end (λ q. omega arith)), i (omega (arith, c))))

pub requests-accepted : (rs : List Range) → NoneOf (requests_checks rs) ↔ (EachAsks rs × (metadata_asked rs ≤ 1))
requests-accepted rs = (to true rs, λ h. from true rs h.0 h.1)
