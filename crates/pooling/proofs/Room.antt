-- The pool's rule for room: an otherwise valid event is refused with 1 exactly if it would leave more ranges than the transfer holds and
-- one more would pass its limit, or it holds its floor and the sum of the larger of held and floor is S. Below its floor it never is.
use mathlib.Core.Path.{◌≡◌, refl, sym, ap, ◌∙◌}
use mathlib.Core.Bool.{Bool, true, false, ◌&&◌, cond}
use mathlib.Core.List.{List, [], ◌∷◌, ◌++◌}
use mathlib.Core.Logic.{inl, inr, ◌↔◌}
use Prim.Native.Nat.{ℕ, suc, ◌+◌, ◌≤◌, ◌<◌}
use native.Mathlib.Omega.{arith}
use lib.Dec.{ltb}
use lib.ListN.{length}
use borrow.Author.Tests.{le-ltb, lt-ltb, ltb-true}
use Rattle.ranges.specs.Range.{Range}
use Rattle.ranges.specs.Store.{capacity, counted}
use Rattle.ranges.proofs.Test.{and_true}
use Rattle.outcomes.specs.Outcome.{Outcome, accepted}
use Rattle.outcomes.specs.Refusal.{refusing}
use Rattle.outcomes.specs.Checks.{NoneOf}
use Rattle.outcomes.specs.declared.Refusal.TheVariants as refusal
use Rattle.outcomes.proofs.FirstOf.{first-none}
use Rattle.outcomes.proofs.Ends.{none_other}
use Rattle.reception.specs.declared.Reception.{Reception}
use Rattle.reception.specs.Data.{data_leaves, is_full, data_checks, room_outcome}
use Rattle.reception.specs.Metadata.{metadata_checks, metadata_outcome}
use Rattle.reception.specs.Eof.{eof_leaves, eof_checks, tail_outcome}
use Rattle.reception.specs.History.{Event, Data, Metadata, Eof, outcome}
use Rattle.reception.proofs.Sound.{sound, none-join}
use Rattle.reception.proofs.data.Accepted.{checked}
use Rattle.pooling.specs.declared.Pool.{Pool}
use Rattle.pooling.specs.Pool.{record_at, count_at, floor_at, NoRoom, is_no_room}
use Rattle.pooling.specs.Share.{pool_checks, own_list, own_state}
use Rattle.pooling.specs.Events.{event_outcome}
use Rattle.pooling.proofs.Own.{no_room, list-capacity, counted-list, length_ranges}
use Rattle.pooling.proofs.Grows.{data_grows, eof_grows}
use Rattle.pooling.proofs.Ends.{Ready, ready, own-outcome, data_full, data-taken, eof_full, eof-ended}

-- whether ranges that are at most one more than held are too many for the transfer's list
full_exactly : (t : Bool) (m k : ℕ) → k ≤ suc m → ltb (cond t m (suc m)) k ≡ (ltb m k && t)
full_exactly true m k h = go (ltb m k)
  where
    go : (b : Bool) → b ≡ (b && true)
    go true = refl
    go false = refl
full_exactly false m k h = le-ltb (suc m) k h ∙ go (ltb m k)
  where
    go : (b : Bool) → false ≡ (b && false)
    go true = refl
    go false = refl

module _ (p : Pool) (xs : List ℕ) (i : ℕ) (n : NoneOf (pool_checks p xs i)) where
  abbrev rec : Reception
  rec = record_at p i

  abbrev ys : List ℕ
  ys = own_list p xs i

  able : Ready p xs i
  able = ready p xs i n

  held : length (counted ys (count_at p i)) ≡ count_at p i
  held = ap length (counted-list p xs i able.known able.share) ∙ length_ranges p xs i able.known able.share

  abbrev is_too_many : List Range → Bool
  is_too_many rs = ltb (count_at p i) (length rs) && is_no_room p (capacity xs) i

  rule : (rs : List Range) → length rs ≤ suc (count_at p i) → is_full (capacity ys) rs ≡ is_too_many rs
  rule rs h = ap (λ (k : ℕ). ltb k (length rs)) (list-capacity p xs i able.known able.share) ∙ full_exactly (is_no_room p (capacity xs) i) (count_at p i) (length rs) h

  -- no accepted answer is a refusal
  apart-full : (vs : List ℕ) → accepted vs ≡ refusing refusal.StoreFull → ⊥
  apart-full vs e = omega (arith, ap (λ (o : Outcome). o.number) e)

  -- the data event
  module _ (o z : ℕ) (d : NoneOf (data_checks rec ys o z)) where
    abbrev leaves : List Range
    leaves = data_leaves rec ys o z

    pub leaves-most : length leaves ≤ suc (count_at p i)
    leaves-most =
        let c = checked rec ys o z d in
        let s = sound ys rec c.passed in
        let k = data_grows rec.missing rec.progress o (o + z) (counted ys (count_at p i)) (omega (arith, c.some)) s.whole s.above in
        omega (arith, k, held)

    both : NoneOf (pool_checks p xs i ++ data_checks rec ys o z)
    both = none-join (pool_checks p xs i) (data_checks rec ys o z) n d

    -- refused with 1 exactly if more would be left than it holds and there is no room; else accepted
    pub data_refused : (event_outcome p xs i (Data o z) ≡ refusing refusal.StoreFull) ↔ ((count_at p i < length leaves) × NoRoom p (capacity xs) i)
    data_refused = (λ e. to (is_too_many leaves) refl e, from)
      where
        to : (t : Bool) → is_too_many leaves ≡ t → event_outcome p xs i (Data o z) ≡ refusing refusal.StoreFull → (count_at p i < length leaves) × NoRoom p (capacity xs) i
        to true f e = let w = and_true (ltb (count_at p i) (length leaves)) (is_no_room p (capacity xs) i) f in (ltb-true _ _ w.0, (no_room p (capacity xs) i).0 w.1)
        to false f e = absurd (apart-full _ ((data-taken p xs i o z both rec.missing refl (rule leaves leaves-most ∙ f)).0 ∙ e))

        from : (count_at p i < length leaves) × NoRoom p (capacity xs) i → event_outcome p xs i (Data o z) ≡ refusing refusal.StoreFull
        from w =
            let f : is_too_many leaves ≡ true = rw (lt-ltb _ _ w.0) ((no_room p (capacity xs) i).1 w.1) in
            sym (data_full p xs i o z both (rule leaves leaves-most ∙ f)).0

    pub data-accepted : ((count_at p i < length leaves) × NoRoom p (capacity xs) i → ⊥) → event_outcome p xs i (Data o z) ≡ accepted (cond rec.missing (0 ∷ []) (1 ∷ []))
    data-accepted c = go (is_too_many leaves) refl
      where
        go : (t : Bool) → is_too_many leaves ≡ t → event_outcome p xs i (Data o z) ≡ accepted (cond rec.missing (0 ∷ []) (1 ∷ []))
        go true f = let w = and_true (ltb (count_at p i) (length leaves)) (is_no_room p (capacity xs) i) f in absurd (c (ltb-true _ _ w.0, (no_room p (capacity xs) i).0 w.1))
        go false f = sym (data-taken p xs i o z both rec.missing refl (rule leaves leaves-most ∙ f)).0

  -- the EOF event
  module _ (z : ℕ) (d : NoneOf (eof_checks rec ys z)) where
    abbrev tail : List Range
    tail = eof_leaves rec ys z

    tail-most : length tail ≤ suc (count_at p i)
    tail-most = let k = eof_grows rec.missing rec.progress z (counted ys (count_at p i)) in omega (arith, k, held)

    eof-both : NoneOf (pool_checks p xs i ++ eof_checks rec ys z)
    eof-both = none-join (pool_checks p xs i) (eof_checks rec ys z) n d

    pub eof_refused : (event_outcome p xs i (Eof z) ≡ refusing refusal.StoreFull) ↔ ((count_at p i < length tail) × NoRoom p (capacity xs) i)
    eof_refused = (λ e. to (is_too_many tail) refl e, from)
      where
        to : (t : Bool) → is_too_many tail ≡ t → event_outcome p xs i (Eof z) ≡ refusing refusal.StoreFull → (count_at p i < length tail) × NoRoom p (capacity xs) i
        to true f e = let w = and_true (ltb (count_at p i) (length tail)) (is_no_room p (capacity xs) i) f in (ltb-true _ _ w.0, (no_room p (capacity xs) i).0 w.1)
        to false f e = absurd (apart-full [] ((eof-ended p xs i z eof-both (rule tail tail-most ∙ f)).0 ∙ e))

        from : (count_at p i < length tail) × NoRoom p (capacity xs) i → event_outcome p xs i (Eof z) ≡ refusing refusal.StoreFull
        from w =
            let f : is_too_many tail ≡ true = rw (lt-ltb _ _ w.0) ((no_room p (capacity xs) i).1 w.1) in
            sym (eof_full p xs i z eof-both (rule tail tail-most ∙ f)).0

    pub eof-accepted : ((count_at p i < length tail) × NoRoom p (capacity xs) i → ⊥) → event_outcome p xs i (Eof z) ≡ accepted []
    eof-accepted c = go (is_too_many tail) refl
      where
        go : (t : Bool) → is_too_many tail ≡ t → event_outcome p xs i (Eof z) ≡ accepted []
        go true f = let w = and_true (ltb (count_at p i) (length tail)) (is_no_room p (capacity xs) i) f in absurd (c (ltb-true _ _ w.0, (no_room p (capacity xs) i).0 w.1))
        go false f = sym (eof-ended p xs i z eof-both (rule tail tail-most ∙ f)).0

-- a transfer below its floor is never refused for room, whatever the pool and the list hold
pub below_floor : (p : Pool) (xs : List ℕ) (i : ℕ) (e : Event) → count_at p i < floor_at p i → event_outcome p xs i e ≡ refusing refusal.StoreFull → ⊥
below_floor p xs i e b f = go e f
  where
    n : NoneOf (pool_checks p xs i)
    n = none_other 1 (pool_checks p xs i) (outcome (own_state p xs i) e) (λ q. omega (arith, q), (λ q. omega (arith, q), tt)) (ap (λ (o : Outcome). o.number) f)

    settled : Ready p xs i
    settled = ready p xs i n

    free : NoRoom p (capacity xs) i → ⊥
    free (inl h) = omega (arith, h, b, settled.settings.floors i settled.known)
    free (inr h) = omega (arith, h.0, b)

    one : (e : Event) → event_outcome p xs i e ≡ refusing refusal.StoreFull → (outcome (own_state p xs i) e).number ≡ 1
    one e f = ap (λ (o : Outcome). o.number) (sym (own-outcome p xs i e n) ∙ f)

    go : (e : Event) → event_outcome p xs i e ≡ refusing refusal.StoreFull → ⊥
    go (Data o z) f =
        let d = none_other 1 (data_checks (record_at p i) (own_list p xs i) o z) (room_outcome (record_at p i) (own_list p xs i) o z) (
          λ q. omega (arith, q),
          (λ q. omega (arith, q), (λ q. omega (arith, q), (λ q. omega (arith, q), (λ q. omega (arith, q), (λ q. omega (arith, q), (λ q. omega (arith, q), tt)))))),
        ) (one (Data o z) f) in
        free ((data_refused p xs i n o z d).0 f).1
    go (Eof z) f =
        let d = none_other 1 (eof_checks (record_at p i) (own_list p xs i) z) (tail_outcome (record_at p i) (own_list p xs i) z)
        (λ q. omega (arith, q), (λ q. omega (arith, q), (λ q. omega (arith, q), (λ q. omega (arith, q), (λ q. omega (arith, q), tt))))) (one (Eof z) f) in
        free ((eof_refused p xs i n z d).0 f).1
    go Metadata f =
        let d = none_other 1 (metadata_checks (record_at p i) (own_list p xs i)) (accepted [])
        (λ q. omega (arith, q), (λ q. omega (arith, q), (λ q. omega (arith, q), (λ q. omega (arith, q), tt)))) (one Metadata f) in
        let a : metadata_outcome (record_at p i) (own_list p xs i) ≡ accepted [] = first-none (metadata_checks (record_at p i) (own_list p xs i)) (accepted []) d in
        omega (arith, one Metadata f, ap (λ (o : Outcome). o.number) a)
