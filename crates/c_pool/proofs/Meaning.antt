-- What C's pool stands for after an event is the pool of the event's definition; a refused event leaves C's pool as it was, and an
-- accepted one every record but its own.
use mathlib.Core.Path.{◌≡◌, refl, sym, ap, ◌∙◌}
use mathlib.Core.Bool.{Bool, true, false}
use mathlib.Core.List.{List}
use Prim.Native.Nat.{ℕ, ◌<◌}
use lib.Dec.{eqb}
use lib.ListN.{length, get_or}
use lib.Seq.{get_or-set_same, get_or-set_other}
use Rattle.outcomes.specs.Outcome.{Outcome}
use Rattle.outcomes.proofs.FirstOf.{first-accepted}
use Rattle.reception.specs.declared.Reception.{Reception}
use Rattle.reception.specs.Data.{data_record}
use Rattle.reception.specs.Metadata.{metadata_record}
use Rattle.reception.specs.Eof.{eof_outcome, eof_record}
use Rattle.reception.specs.History.{Event, Data, Metadata, Eof, outcome, step}
use Rattle.pooling.specs.declared.Pool.{Pool}
use Rattle.pooling.specs.Pool.{most_transfers, nowhere, record_at}
use Rattle.pooling.specs.Pool.{with_record as pool_with}
use Rattle.pooling.specs.Share.{pool_checks, own_state, own_list}
use Rattle.pooling.specs.Events.{event_outcome, event_pool}
use Rattle.pooling.proofs.Ends.{own-outcome}
use Rattle.c_values.specs.declared.PusmarkeReception.{PusmarkeReception}
use Rattle.c_values.specs.Input.{record_in}
use Rattle.c_values.specs.Output.{advanced_to, marked_by, ended_by}
use Rattle.c_values.proofs.Meaning.{data_means, metadata_means, eof_means}
use Rattle.c_pool.specs.declared.PusmarkePool.{PusmarkePool}
use Rattle.c_pool.specs.Input.{no_record, record_of, pool_in}
use Rattle.c_pool.specs.Output.{with_record, record_after, pool_after}
use Rattle.c_pool.proofs.InUse.{in_use, taken, left}
use Rattle.c_pool.proofs.Records.{record-in, with_in}

-- C's record of a transfer after an event of it, as after the event of one reception
data_at : (q : Reception) (r : PusmarkeReception) (ys : List ℕ) (o z : ℕ) → q ≡ record_in r → record_in (advanced_to (data_record q ys o z) r) ≡ data_record q ys o z
data_at q r ys o z e = rw e (data_means r ys o z)

metadata-at : (q : Reception) (r : PusmarkeReception) (ys : List ℕ) → q ≡ record_in r → record_in (marked_by (metadata_record q ys) r) ≡ metadata_record q ys
metadata-at q r ys e = rw e (metadata_means r ys)

eof_at : (q : Reception) (r : PusmarkeReception) (ys : List ℕ) (z : ℕ) (o : Outcome) → q ≡ record_in r → o ≡ eof_outcome q ys z
    → record_in (ended_by o (eof_record q ys z) r) ≡ eof_record q ys z
eof_at q r ys z o e f = rw (f, e) (eof_means r ys z)

module _ (c : PusmarkePool) (xs : List ℕ) (i : ℕ) where
  stands : (e : Event) → length c.records ≡ most_transfers → event_outcome (pool_in c) xs i e ≡ outcome (own_state (pool_in c) xs i) e
      → record_in (record_after e (event_outcome (pool_in c) xs i e) (step (own_state (pool_in c) xs i) e).rec (record_of c i)) ≡ (step (own_state (pool_in c) xs i) e).rec
  stands (Data o z) eight f = data_at (record_at (pool_in c) i) (record_of c i) (own_list (pool_in c) xs i) o z (record-in c eight i)
  stands Metadata eight f = metadata-at (record_at (pool_in c) i) (record_of c i) (own_list (pool_in c) xs i) (record-in c eight i)
  stands (Eof z) eight f =
      eof_at (record_at (pool_in c) i) (record_of c i) (own_list (pool_in c) xs i) z (event_outcome (pool_in c) xs i (Eof z)) (record-in c eight i) f

  module _ (e : Event) where
    abbrev out : Outcome
    out = event_outcome (pool_in c) xs i e

    abbrev new : Reception
    new = (step (own_state (pool_in c) xs i) e).rec

    -- C's pool with the record that is left where the transfer has the record q
    abbrev by : Reception → PusmarkePool
    by q = with_record c i (record_after e out q (record_of c i))

    pub refused-stays : eqb out.number 0 ≡ false → pool_after c xs i e ≡ c
    refused-stays f = sym (left out (by (record_at (event_pool (pool_in c) xs i e) i)) c f)

    pub others-stay : (k : ℕ) → (k ≡ i → ⊥) → record_of (pool_after c xs i e) k ≡ record_of c k
    others-stay k n = go (eqb out.number 0) refl
      where
        go : (t : Bool) → eqb out.number 0 ≡ t → record_of (pool_after c xs i e) k ≡ record_of c k
        go true t =
            ap (λ (p : PusmarkePool). record_of p k) (sym (taken out (by (record_at (event_pool (pool_in c) xs i e) i)) c t))
            ∙ get_or-set_other c.records i k _ no_record n
        go false f = ap (λ (p : PusmarkePool). record_of p k) (refused-stays f)

    module _ (eight : length c.records ≡ most_transfers) where
      accepted-means : eqb out.number 0 ≡ true → pool_in (pool_after c xs i e) ≡ event_pool (pool_in c) xs i e
      accepted-means t =
          let o = own-outcome (pool_in c) xs i e (first-accepted (pool_checks (pool_in c) xs i) (outcome (own_state (pool_in c) xs i) e) t).0 in
          let l : i < length (pool_in c).records = in_use (pool_in c) xs i e t in
          let q : record_at (event_pool (pool_in c) xs i e) i ≡ new
          = ap (λ (p : Pool). record_at p i) (sym (taken out (pool_with (pool_in c) i new) (pool_in c) t)) ∙ get_or-set_same (pool_in c).records i new nowhere l in
          ap pool_in (sym (taken out (by (record_at (event_pool (pool_in c) xs i e) i)) c t) ∙ ap by q)
          ∙ with_in c eight i (record_after e out new (record_of c i))
          ∙ ap (pool_with (pool_in c) i) (stands e eight o)
          ∙ taken out (pool_with (pool_in c) i new) (pool_in c) t

      pub event-means : pool_in (pool_after c xs i e) ≡ event_pool (pool_in c) xs i e
      event-means = go (eqb out.number 0) refl
        where
          go : (t : Bool) → eqb out.number 0 ≡ t → pool_in (pool_after c xs i e) ≡ event_pool (pool_in c) xs i e
          go true t = accepted-means t
          go false f = ap pool_in (refused-stays f) ∙ left out (pool_with (pool_in c) i new) (pool_in c) f
