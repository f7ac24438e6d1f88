-- With no 10 and no 23, the answers to one transfer depend on the others only through the sum of the larger of held and floor: two pools that
-- agree on the transfer, on the number of slots and on that sum answer it alike, and leave it the same record and the same ranges.
use mathlib.Core.Path.{◌≡◌, sym, ap, ap₂, ◌∙◌}
use mathlib.Core.Bool.{Bool}
use mathlib.Core.List.{List, ◌++◌}
use Prim.Native.Nat.{ℕ}
use Rattle.ranges.specs.Store.{flat, capacity}
use Rattle.ranges.proofs.Flat.{flat-counted}
use Rattle.outcomes.specs.Checks.{NoneOf}
use Rattle.reception.specs.declared.Reception.{Reception}
use Rattle.reception.specs.History.{Event, State, outcome, step, ranges_of}
use Rattle.pooling.specs.declared.Pool.{Pool}
use Rattle.pooling.specs.Pool.{record_at, count_at, floor_at, limit_at, claimed, is_no_room}
use Rattle.pooling.specs.Share.{own_part, own_ranges, pool_checks, free_slot, own_list, own_state}
use Rattle.pooling.specs.Events.{event_outcome}
use Rattle.pooling.proofs.Own.{part-even, all-part, counted-part}
use Rattle.pooling.proofs.Ends.{ready, own-outcome}

-- the numbers of a transfer's part are those of its ranges
pub part-flat : (p : Pool) (xs : List ℕ) (i : ℕ) → NoneOf (pool_checks p xs i) → own_part p xs i ≡ flat (own_ranges p xs i)
part-flat p xs i n =
    let r = ready p xs i n in
    sym (all-part p xs i r.known r.share)
    ∙ sym (flat-counted (own_part p xs i) (count_at p i) (part-even p xs i r.known r.share))
    ∙ ap flat (counted-part p xs i r.known r.share)

module _ (p q : Pool) (xs ys : List ℕ) (i : ℕ) (n : NoneOf (pool_checks p xs i)) (m : NoneOf (pool_checks q ys i))
    (record-as : record_at p i ≡ record_at q i) (ranges-as : own_ranges p xs i ≡ own_ranges q ys i) (floor-as : floor_at p i ≡ floor_at q i) (limit-as : limit_at p i ≡ limit_at q i)
    (slots-as : capacity xs ≡ capacity ys) (sum-as : claimed p ≡ claimed q) where
  room_as : is_no_room p (capacity xs) i ≡ is_no_room q (capacity ys) i
  unfolding is_no_room
  room_as = let c : count_at p i ≡ count_at q i = ap (λ (r : Reception). r.count) record-as in rw (c, floor-as, limit-as, slots-as, sum-as)

  pub same-own : own_state p xs i ≡ own_state q ys i
  same-own =
      let a : own_part p xs i ≡ own_part q ys i = part-flat p xs i n ∙ ap flat ranges-as ∙ sym (part-flat q ys i m) in
      let b : own_list p xs i ≡ own_list q ys i = ap₂ (λ (u : List ℕ) (t : Bool). u ++ free_slot t) a room_as in
      λ j. record { rec = record-as j; list = b j }

  pub same_answer : (e : Event) → event_outcome p xs i e ≡ event_outcome q ys i e
  same_answer e = own-outcome p xs i e n ∙ ap (λ (s : State). outcome s e) same-own ∙ sym (own-outcome q ys i e m)

  pub same_left : (e : Event) → ((step (own_state p xs i) e).rec ≡ (step (own_state q ys i) e).rec) × (ranges_of (step (own_state p xs i) e) ≡ ranges_of (step (own_state q ys i) e))
  same_left e = (ap (λ (s : State). (step s e).rec) same-own, ap (λ (s : State). ranges_of (step s e)) same-own)
