-- What an accepted plan names, for the record that any history of events leaves: each missing octet once and no other. So where the data for its requests
-- arrives and none is refused, the transfer closes, as with a sequence of our own (document 02, C-24).
use mathlib.Core.Path.{◌≡◌, ◌∙◌}
use mathlib.Core.Bool.{Bool, true, false, not, cond}
use mathlib.Core.List.{List, [], ◌∷◌}
use mathlib.Core.Logic.{◌↔◌}
use Prim.Native.Nat.{ℕ, ◌*◌, ◌≤◌}
use lib.ListN.{length}
use Rattle.ranges.specs.Range.{Covers}
use Rattle.ranges.specs.Store.{most_pairs}
use Rattle.ranges.specs.declared.Width.{Width}
use Rattle.outcomes.specs.Outcome.{accepted}
use Rattle.nak.specs.declared.Identity.{Identity}
use Rattle.nak.specs.Request.{metadata_asked}
use Rattle.reception.specs.History.{Event, State, fresh, run, metadata_came, told_size, ranges_of, Missing}
use Rattle.reception.proofs.Records.{mark_metadata}
use Rattle.reception.proofs.Histories.{missing_exact}
use Rattle.holding.specs.Whole.{NoneRefused}
use Rattle.holding.proofs.Histories.{filled}
use Rattle.closing.specs.Arrival.{data_of, Arrives}
use Rattle.closing.proofs.Closing.{all-kept}
use Rattle.planning.specs.Plan.{Plan, asked}
use Rattle.planning.specs.Check.{plan_outcome}
use Rattle.planning.specs.Fits.{EachOnce, Fits}
use Rattle.planning.proofs.Exactly.{accepted_exactly}

wanted_if : (m c : Bool) → m ≡ not c → ◌≡◌ {A = ℕ} (cond m 1 0) (cond c 0 1)
wanted_if m true e = rw e
wanted_if m false e = rw e

module _
    (w : Width) (xs : List ℕ) (N : ℕ) (size : length xs ≡ 2 * N) (few : N ≤ most_pairs) (es : List Event)
    (d : Identity) (p : Plan) (given : ℕ)
    (fits : plan_outcome (run (fresh w xs) es).rec (run (fresh w xs) es).list d p given ≡ accepted [])
  where
    abbrev reached : State
    reached = run (fresh w xs) es

    fit : Fits reached.rec reached.list d p
    fit = ((accepted_exactly reached.rec reached.list d p given).0 fits).1

    -- it names each missing octet and no other
    pub plan-names : (x : ℕ) → Covers x (asked p) ↔ Missing (fresh w xs) es x
    plan-names x =
        let m = missing_exact w xs N size few es x in
        (λ h. m.0 ((fit.union x).0 h), λ h. (fit.union x).1 (m.1 h))

    -- each once
    pub plan-once : EachOnce (asked p)
    plan-once = fit.once

    -- and asks for metadata once exactly if no metadata event was accepted
    pub plan-metadata : metadata_asked (asked p) ≡ cond (metadata_came (fresh w xs) es) 0 1
    plan-metadata = fit.metadata ∙ wanted_if reached.rec.missing (metadata_came (fresh w xs) es) (mark_metadata w xs es)

    module _ (known : metadata_came (fresh w xs) es ≡ true) (z : ℕ) (told : told_size (fresh w xs) es ≡ z ∷ []) where
      -- whatever comes, if none of it is refused and its data covers the requests, the list is empty
      pub plan-closes-covered : (ds : List Event) → ((x : ℕ) → Covers x (asked p) → Covers x (data_of ds)) → NoneRefused reached ds → ranges_of (run reached ds) ≡ []
      plan-closes-covered ds f a = filled w xs N size few es known z told ds (λ x c. all-kept ds reached x a (f x ((fit.union x).1 c)))

      -- the data for every request arrives
      pub plan-closes : (ds : List Event) → Arrives (asked p) ds → NoneRefused reached ds → ranges_of (run reached ds) ≡ []
      plan-closes ds h a = plan-closes-covered ds h.covered a
