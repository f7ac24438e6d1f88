-- What the events of a pool's transfer have in common: what their checks leave known, what the change of the transfer's ranges in the
-- pool's list asks for, and what it leaves, said of the transfer's own list.
use Rattle.std.specs.Prelude.{Option, Some, None, Result, Ok, Err, ok_or}
use mathlib.Core.Path.{◌≡◌, refl, sym, ap, ap₂, ◌∙◌}
use mathlib.Core.Bool.{true, false, cond}
use mathlib.Core.List.{List, [], ◌++◌}
use Prim.Native.Nat.{ℕ, ◌+◌, ◌*◌, ◌≤◌}
use native.Mathlib.Omega.{arith}
use lib.ListN.{length, get_or}
use Rattle.ranges.specs.Range.{Range, Coalesced, last_end}
use Rattle.ranges.specs.Store.{capacity, counted, stored}
use Rattle.ranges.specs.Inner.Cut.{cut_answer}
use Rattle.ranges.proofs.Cutting.{cut_told, full_told}
use Rattle.outcomes.specs.Outcome.{Outcome, accepted}
use Rattle.outcomes.specs.Refusal.{refusing}
use Rattle.outcomes.specs.Checks.{Check, first_of, NoneOf}
use Rattle.outcomes.specs.Answered.{answered, itself}
use Rattle.outcomes.specs.declared.Refusal.{Refusal}
use Rattle.outcomes.specs.declared.Refusal.TheVariants as refusal
use Rattle.outcomes.proofs.Answered.{or_none}
use Rattle.outcomes.proofs.Refusals.{no_refusal}
use Rattle.outcomes.proofs.FirstOf.{first-refused, first-append, none_of}
use Rattle.reception.specs.declared.Reception.{Reception}
use Rattle.reception.specs.Record.{is_waiting, Passed}
use Rattle.reception.specs.Data.{is_full}
use Rattle.reception.specs.History.{Event, outcome}
use Rattle.reception.proofs.Sound.{Sound, sound, none-split}
use Rattle.reception.proofs.Waits.{waiting_few}
use Rattle.pooling.specs.declared.Pool.{Pool}
use Rattle.pooling.specs.Pool.{record_at, count_at}
use Rattle.pooling.specs.Share.{total, pool_checks, own_list, own_state}
use Rattle.pooling.specs.Events.{with_ranges}
use Rattle.pooling.proofs.Own.{slot_free, list-capacity, counted-list, counted-part}
use Rattle.pooling.proofs.Ends.{Ready, ready, Ends, refused-ends}
use Rattle.resizing.specs.declared.inner.place.Place.{Place}
use Rattle.resizing.specs.Inner.{LiesIn, ranges_at, room_at, cut_at}
use Rattle.sharing.proofs.Numbers.{numbers}
use Rattle.pool.specs.Inner.{place_of}

-- the checks pass, or refuse the event
module _ (p : Pool) (xs : List ℕ) (i : ℕ) (cs : List Check) where
  pub passed : accepted [] ≡ first_of (pool_checks p xs i ++ cs) (accepted []) → NoneOf (pool_checks p xs i ++ cs)
  passed = none_of (pool_checks p xs i ++ cs)

  pub split : accepted [] ≡ first_of (pool_checks p xs i ++ cs) (accepted []) → Ready p xs i × NoneOf cs
  split e = let n = none-split (pool_checks p xs i) cs (passed e) in (ready p xs i n.0, n.1)

  pub refused : (e : Event) (behind : Outcome) (q : Refusal) → outcome (own_state p xs i) e ≡ first_of cs behind → refusing q ≡ first_of (pool_checks p xs i ++ cs) (accepted [])
      → Ends p xs i e (refusing q) p xs
  refused e behind q o h =
      refused-ends p xs i e q
      (first-refused (pool_checks p xs i ++ cs) q behind h ∙ first-append (pool_checks p xs i) cs behind ∙ ap (first_of (pool_checks p xs i)) (sym o))

-- what `ok_or` hands on of an option
no_value : (u : Option ℕ) (r q : Refusal) → ◌≡◌ {A = Result ℕ Refusal} (Err r) (ok_or u q) → (None ≡ u) × (refusing r ≡ refusing q)
no_value None r q e = (refl, or_none {A = ℕ} r q e)
no_value (Some m) r q e = absurd (no_refusal r (ap (answered itself) e))

a_value : (u : Option ℕ) (n : ℕ) (q : Refusal) → ◌≡◌ {A = Result ℕ Refusal} (Ok n) (ok_or u q) → Some n ≡ u
a_value None n q e = absurd (no_refusal q (sym (ap (answered itself) e)))
a_value (Some m) n q e = ap Some (ap (λ (o : Outcome). get_or o.values 0 0) (ap (answered itself) e))

module _ (p : Pool) (xs : List ℕ) (i : ℕ) (r : Ready p xs i) where
  abbrev rec : Reception
  rec = record_at p i

  abbrev ys : List ℕ
  ys = own_list p xs i

  abbrev place : Place
  place = place_of p (capacity xs) i

  -- the transfer's ranges, in the pool's list and in its own
  same_ranges : ranges_at place xs ≡ counted ys (count_at p i)
  same_ranges = counted-part p xs i r.known r.share ∙ sym (counted-list p xs i r.known r.share)

  pub lies : LiesIn place xs
  lies = let n = numbers p xs i r in (n.ends, (n.slots, n.most))

  pub free : place.full ≡ false → 2 * (place.total + 1) ≤ length xs
  free g =
      let s = r.share in
      let k : total p + 1 ≤ capacity xs = slot_free p (capacity xs) i r.known g s.claims in
      omega (arith, k, s.size)

  module _ (ok : Passed ys rec) where
    abbrev s : Sound ys rec
    s = sound ys rec ok

    pub whole : Coalesced (ranges_at place xs) × (last_end (ranges_at place xs) ≤ rec.progress)
    whole = rw same_ranges (s.whole, s.above)

    pub waits : rec.missing ≡ true → is_waiting rec.progress (ranges_at place xs) ≡ true
    waits m = rw same_ranges (s.waits m)

    pub few : rec.missing ≡ true → count_at p i ≤ 1
    few m = waiting_few ys (count_at p i) rec.progress s.store.room (s.waits m)

  -- what it leaves, the list's end and the transfer's ranges
  module _ (g : List Range → List Range) (u : Option ℕ) (l : List ℕ) (value : u ≡ cut_answer (room_at place) (g (ranges_at place xs)))
      (list_after : l ≡ cut_at (room_at place) place.at place.count place.total (g (ranges_at place xs)) xs) where
    abbrev qs : List Range
    qs = g (counted ys (count_at p i))

    told : u ≡ cut_answer (capacity ys) qs
    told = value ∙ ap₂ (λ (k : ℕ) (rs : List Range). cut_answer k (g rs)) (sym (list-capacity p xs i r.known r.share)) same_ranges

    left : l ≡ cond (is_full (capacity ys) qs) xs (stored (with_ranges p xs i qs) (total p) xs)
    left =
        list_after
        ∙ ap₂ (λ (k : ℕ) (rs : List Range). cut_at k place.at place.count place.total (g rs) xs) (sym (list-capacity p xs i r.known r.share)) same_ranges

    -- there is no room for them
    pub no_room : (q : Refusal) → ◌≡◌ {A = Result ℕ Refusal} (Err q) (ok_or u refusal.StoreFull)
        → (refusing q ≡ refusing refusal.StoreFull) × ((is_full (capacity ys) qs ≡ true) × (l ≡ xs))
    no_room q e = let n = no_value u q _ e in let t = full_told (capacity ys) qs (n.0 ∙ told) in (n.1, (t, left ∙ rw t))

    -- there is
    pub room : (n : ℕ) → ◌≡◌ {A = Result ℕ Refusal} (Ok n) (ok_or u refusal.StoreFull)
        → (is_full (capacity ys) qs ≡ false) × ((n ≡ length qs) × (l ≡ stored (with_ranges p xs i qs) (total p) xs))
    room n e = let t = cut_told (capacity ys) n qs (a_value u n refusal.StoreFull e ∙ told) in (t.0, (t.1, left ∙ rw t.0))
