-- What an event of a transfer answers and leaves: refused, and nothing changes; or accepted, and the transfer's record and ranges are those
-- that the event of its own reception leaves.
use mathlib.Core.Path.{◌≡◌, sym, ap, ◌∙◌}
use mathlib.Core.Bool.{Bool, true, false, cond}
use mathlib.Core.List.{List, [], ◌∷◌, ◌++◌}
use Prim.Native.Nat.{ℕ, ◌<◌}
use lib.ListN.{length}
use Rattle.ranges.specs.Range.{Range}
use Rattle.ranges.specs.Store.{capacity, counted, stored}
use Rattle.ranges.proofs.Stored.{counted-stored}
use Rattle.ranges.proofs.Test.{or_false}
use Rattle.outcomes.specs.Outcome.{Outcome, accepted, lent}
use Rattle.outcomes.specs.Refusal.{refusing}
use Rattle.outcomes.specs.Checks.{NoneOf}
use Rattle.outcomes.specs.declared.Refusal.{Refusal}
use Rattle.outcomes.specs.declared.Refusal.TheVariants as refusal
use Rattle.outcomes.proofs.Refusals.{lent-refused}
use Rattle.outcomes.proofs.FirstOf.{first-none}
use Rattle.reception.specs.declared.Reception.{Reception}
use Rattle.reception.specs.Record.{known as cleared, ended}
use Rattle.reception.specs.Data.{data_leaves, is_full, data_checks, room_outcome, data_outcome, advanced}
use Rattle.reception.specs.Metadata.{metadata_checks, metadata_outcome}
use Rattle.reception.specs.Eof.{eof_leaves, eof_checks, tail_outcome, eof_outcome}
use Rattle.reception.specs.History.{Event, Data, Metadata, Eof, outcome, step, ranges_of}
use Rattle.reception.proofs.Sound.{none-split}
use Rattle.pooling.specs.declared.Pool.{Pool}
use Rattle.pooling.specs.Pool.{record_at, with_record}
use Rattle.pooling.specs.Share.{total, is_bad_share, pool_checks, own_list, own_state}
use Rattle.pooling.specs.Events.{event_outcome, event_pool, with_ranges, event_list}
use Rattle.pooling.proofs.Own.{Settled, Shared, known, shared}

-- neither 23 nor 10
pub record Ready (p : Pool) (xs : List ℕ) (i : ℕ) : Type 0 where
  pub settings : Settled p (capacity xs)
  pub known : i < p.used
  pub share : Shared p xs

pub ready : (p : Pool) (xs : List ℕ) (i : ℕ) → NoneOf (pool_checks p xs i) → Ready p xs i
ready p xs i n =
    let k = known p xs i n.0 in
    record { settings = k.0; known = k.1; share = shared p xs (or_false (is_bad_share p xs) _ n.1.0).0 }

module _ (p : Pool) (xs : List ℕ) (i : ℕ) (e : Event) where
  -- what is said of an answer: its outcome, the pool and the list that it leaves
  abbrev pub Ends : Outcome → Pool → List ℕ → Type 0
  Ends o q l = (o ≡ event_outcome p xs i e) × ((q ≡ event_pool p xs i e) × (l ≡ event_list p xs i e))

  -- the pool and the list of an accepted event
  abbrev pub new_pool : Pool
  new_pool = with_record p i (step (own_state p xs i) e).rec

  abbrev pub new_list : List ℕ
  new_list = stored (with_ranges p xs i (ranges_of (step (own_state p xs i) e))) (total p) xs

  pub refused-ends : (r : Refusal) → refusing r ≡ event_outcome p xs i e → Ends (refusing r) p xs
  refused-ends r f = (
    f,
    (
      sym (lent-refused r new_pool p) ∙ ap (λ (o : Outcome). lent o new_pool p) f,
      sym (lent-refused r new_list xs) ∙ ap (λ (o : Outcome). lent o new_list xs) f,
    ),
  )

  pub taken-ends : (vs : List ℕ) → accepted vs ≡ event_outcome p xs i e → Ends (accepted vs) new_pool new_list
  taken-ends vs f = (f, (ap (λ (o : Outcome). lent o new_pool p) f, ap (λ (o : Outcome). lent o new_list xs) f))

  -- neither 23 nor 10: the event of the transfer's own reception answers
  pub own-outcome : NoneOf (pool_checks p xs i) → event_outcome p xs i e ≡ outcome (own_state p xs i) e
  own-outcome n = first-none (pool_checks p xs i) (outcome (own_state p xs i) e) n

-- the data event
module _ (p : Pool) (xs : List ℕ) (i o z : ℕ) (n : NoneOf (pool_checks p xs i ++ data_checks (record_at p i) (own_list p xs i) o z)) where
  abbrev rec : Reception
  rec = record_at p i

  abbrev ys : List ℕ
  ys = own_list p xs i

  -- noticed while the metadata is missing, else kept
  abbrev pub mark : Bool → List ℕ
  mark m = cond m (0 ∷ []) (1 ∷ [])

  none : NoneOf (pool_checks p xs i) × NoneOf (data_checks rec ys o z)
  none = none-split (pool_checks p xs i) (data_checks rec ys o z) n

  by-room : data_outcome rec ys o z ≡ room_outcome rec ys o z
  by-room = first-none (data_checks rec ys o z) (room_outcome rec ys o z) none.1

  pub data_full : is_full (capacity ys) (data_leaves rec ys o z) ≡ true → Ends p xs i (Data o z) (refusing refusal.StoreFull) p xs
  data_full f =
      let a : refusing refusal.StoreFull ≡ room_outcome rec ys o z = rw f in
      refused-ends p xs i (Data o z) refusal.StoreFull (a ∙ sym by-room ∙ sym (own-outcome p xs i (Data o z) none.0))

  module _ (m : Bool) (g : rec.missing ≡ m) (f : is_full (capacity ys) (data_leaves rec ys o z) ≡ false) where
    told : (m : Bool) → rec.missing ≡ m → accepted (mark m) ≡ room_outcome rec ys o z
    told true g = rw (f, g)
    told false g = rw (f, g)

    taken : data_outcome rec ys o z ≡ accepted (mark m)
    taken = by-room ∙ sym (told m g)

    moved_on : (step (own_state p xs i) (Data o z)).rec ≡ advanced rec ys o z
    moved_on = ap (λ (u : Outcome). lent u (advanced rec ys o z) rec) taken

    leaves : ranges_of (step (own_state p xs i) (Data o z)) ≡ data_leaves rec ys o z
    leaves =
        ap (λ (u : Outcome). counted (lent u (stored (data_leaves rec ys o z) rec.count ys) ys) (lent u (advanced rec ys o z) rec).count) taken
        ∙ counted-stored (data_leaves rec ys o z) rec.count ys

    pub data-taken : Ends p xs i (Data o z) (accepted (mark m)) (with_record p i (advanced rec ys o z)) (stored (with_ranges p xs i (data_leaves rec ys o z)) (total p) xs)
    data-taken =
        let w = taken-ends p xs i (Data o z) (mark m) (sym taken ∙ sym (own-outcome p xs i (Data o z) none.0)) in (
          w.0,
          (
            ap (with_record p i) (sym moved_on) ∙ w.1.0,
            ap (λ (rs : List Range). stored (with_ranges p xs i rs) (total p) xs) (sym leaves) ∙ w.1.1,
          ),
        )

-- the EOF event
module _ (p : Pool) (xs : List ℕ) (i z : ℕ) (n : NoneOf (pool_checks p xs i ++ eof_checks (record_at p i) (own_list p xs i) z)) where
  abbrev eof-rec : Reception
  eof-rec = record_at p i

  abbrev eof-ys : List ℕ
  eof-ys = own_list p xs i

  abbrev new : Reception
  new = ended eof-rec z (length (eof_leaves eof-rec eof-ys z))

  eof_none : NoneOf (pool_checks p xs i) × NoneOf (eof_checks eof-rec eof-ys z)
  eof_none = none-split (pool_checks p xs i) (eof_checks eof-rec eof-ys z) n

  by-tail : eof_outcome eof-rec eof-ys z ≡ tail_outcome eof-rec eof-ys z
  by-tail = first-none (eof_checks eof-rec eof-ys z) (tail_outcome eof-rec eof-ys z) eof_none.1

  pub eof_full : is_full (capacity eof-ys) (eof_leaves eof-rec eof-ys z) ≡ true → Ends p xs i (Eof z) (refusing refusal.StoreFull) p xs
  eof_full f =
      let a : refusing refusal.StoreFull ≡ tail_outcome eof-rec eof-ys z = rw f in
      refused-ends p xs i (Eof z) refusal.StoreFull (a ∙ sym by-tail ∙ sym (own-outcome p xs i (Eof z) eof_none.0))

  module _ (f : is_full (capacity eof-ys) (eof_leaves eof-rec eof-ys z) ≡ false) where
    told-ended : tail_outcome eof-rec eof-ys z ≡ accepted []
    told-ended = rw f

    eof_taken : eof_outcome eof-rec eof-ys z ≡ accepted []
    eof_taken = by-tail ∙ told-ended

    eof-leaves : ranges_of (step (own_state p xs i) (Eof z)) ≡ eof_leaves eof-rec eof-ys z
    eof-leaves =
        ap (λ (u : Outcome). counted (lent u (stored (eof_leaves eof-rec eof-ys z) eof-rec.count eof-ys) eof-ys) (lent u new eof-rec).count) eof_taken
        ∙ counted-stored (eof_leaves eof-rec eof-ys z) eof-rec.count eof-ys

    pub eof-ended : Ends p xs i (Eof z) (accepted []) (with_record p i new) (stored (with_ranges p xs i (eof_leaves eof-rec eof-ys z)) (total p) xs)
    eof-ended =
        let w = taken-ends p xs i (Eof z) [] (sym eof_taken ∙ sym (own-outcome p xs i (Eof z) eof_none.0)) in (
          w.0,
          (
            ap (λ (u : Outcome). with_record p i (lent u new eof-rec)) (sym eof_taken) ∙ w.1.0,
            ap (λ (rs : List Range). stored (with_ranges p xs i rs) (total p) xs) (sym eof-leaves) ∙ w.1.1,
          ),
        )

-- the metadata event
pub metadata-taken : (p : Pool) (xs : List ℕ) (i : ℕ) → NoneOf (pool_checks p xs i ++ metadata_checks (record_at p i) (own_list p xs i))
    → (accepted [] ≡ event_outcome p xs i Metadata) × (with_record p i (cleared (record_at p i)) ≡ event_pool p xs i Metadata)
metadata-taken p xs i n =
    let w = none-split (pool_checks p xs i) (metadata_checks (record_at p i) (own_list p xs i)) n in
    let a : metadata_outcome (record_at p i) (own_list p xs i) ≡ accepted [] = first-none (metadata_checks (record_at p i) (own_list p xs i)) (accepted []) w.1 in
    let e = taken-ends p xs i Metadata [] (sym a ∙ sym (own-outcome p xs i Metadata w.0)) in
    (e.0, ap (λ (u : Outcome). with_record p i (lent u (cleared (record_at p i)) (record_at p i))) (sym a) ∙ e.1.0)
