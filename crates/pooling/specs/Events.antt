-- The events of a pool's transfers (document 02, C-21): what each answers and leaves is what the event of one reception does, on the list
-- that the transfer has. So 1 is the pool's rule, and all other checks behind 23 and 10 are those of a reception.
use Rattle.std.specs.Prelude.{ℕ, ◌+◌, List}
use Rattle.ranges.specs.Range.{Range}
use Rattle.ranges.specs.Store.{stored}
use Rattle.ranges.specs.Inner.Moves.{replaced}
use Rattle.outcomes.specs.Outcome.{Outcome, lent}
use Rattle.outcomes.specs.Checks.{first_of}
use Rattle.reception.specs.History.{Event, outcome, step, ranges_of}
use Rattle.pooling.specs.declared.Pool.{Pool}
use Rattle.pooling.specs.Pool.{count_at, with_record}
use Rattle.pooling.specs.Share.{base, total, all_ranges, pool_checks, own_state}

-- What the event e of transfer i answers.
abbrev pub event_outcome : Pool → List ℕ → ℕ → Event → Outcome
event_outcome p xs i e = first_of (pool_checks p xs i) (outcome (own_state p xs i) e)

-- The pool afterwards: the transfer's record is the one that the event leaves.
abbrev pub event_pool : Pool → List ℕ → ℕ → Event → Pool
event_pool p xs i e = lent (event_outcome p xs i e) (with_record p i (step (own_state p xs i) e).rec) p

-- The pool's ranges with qs in the place of those of transfer i.
abbrev pub with_ranges : Pool → List ℕ → ℕ → List Range → List Range
with_ranges p xs i qs = replaced (base p i) (base p i + count_at p i) qs (all_ranges p xs)

-- The list afterwards. Its slots follow the pool's whole count.
abbrev pub event_list : Pool → List ℕ → ℕ → Event → List ℕ
event_list p xs i e =
    lent (event_outcome p xs i e) (stored (with_ranges p xs i (ranges_of (step (own_state p xs i) e))) (total p) xs) xs
