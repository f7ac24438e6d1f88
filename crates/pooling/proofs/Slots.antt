-- The list's slots follow the pool's whole count: from the new whole count up to the old one they are (0, 0), past both they stay.
use mathlib.Core.Path.{◌≡◌, ap, ◌∙◌}
use mathlib.Core.Bool.{true}
use mathlib.Core.List.{List}
use Prim.Native.Nat.{ℕ, ◌*◌, ◌≤◌, ◌<◌}
use lib.Dec.{eqb}
use lib.ListN.{length, get_or, drop}
use Rattle.ranges.specs.Range.{Range}
use Rattle.ranges.specs.Store.{stored}
use Rattle.ranges.proofs.Stored.{given_up, drop-stored}
use Rattle.reception.specs.History.{Event, step, ranges_of}
use Rattle.pooling.specs.declared.Pool.{Pool}
use Rattle.pooling.specs.Share.{total, own_state}
use Rattle.pooling.specs.Events.{event_outcome, with_ranges, event_list}

module _ (p : Pool) (xs : List ℕ) (i : ℕ) (e : Event) (f : eqb (event_outcome p xs i e).number 0 ≡ true) where
  -- all ranges afterwards
  abbrev all : List Range
  all = with_ranges p xs i (ranges_of (step (own_state p xs i) e))

  list-is : event_list p xs i e ≡ stored all (total p) xs
  list-is = rw f

  pub slots_given_up : (j : ℕ) → 2 * length all ≤ j → j < 2 * total p → get_or (event_list p xs i e) j 0 ≡ 0
  slots_given_up j a b = ap (λ (l : List ℕ). get_or l j 0) list-is ∙ given_up all (total p) xs j a b

  pub slots_stay : (j : ℕ) → 2 * length all ≤ j → 2 * total p ≤ j → drop j (event_list p xs i e) ≡ drop j xs
  slots_stay j a b = ap (λ (l : List ℕ). drop j l) list-is ∙ drop-stored j all (total p) xs a b
