-- Histories of a pool: events, each of a transfer; what the pool does with one, what a list of them leaves; and of transfer k which data
-- ranges were kept and which offsets are missing. What was kept and is missing rests on the transfer's own events and their acceptance alone.
use Rattle.std.specs.Prelude.{ℕ, zero, suc, ◌+◌, ◌<◌, max, ◌≡◌, Bool, false, ◌&&◌, ◌||◌, cond, List, [], ◌∷◌, ◌⊎◌, eqb, length}
use Rattle.ranges.specs.Range.{Range, range, In, Covers}
use Rattle.ranges.specs.Without.{Outside}
use Rattle.outcomes.specs.Outcome.{Outcome, accepted}
use Rattle.reception.specs.Record.{fresh_record}
use Rattle.reception.specs.History.{Event, is_metadata, kept_by, end_by, size_by}
use Rattle.pooling.specs.declared.Pool.{Pool}
use Rattle.pooling.specs.Pool.{most_transfers, record_at}
use Rattle.pooling.specs.Events.{event_outcome, event_pool, event_list}

-- A pool that the host keeps and the list that it lends.
pub record PoolState : Type 0 where
  pub pool : Pool
  pub list : List ℕ

-- A fresh pool: each transfer in use has a fresh record, of its own width. (A pool's array has eight records.)
pub record Fresh (p : Pool) : Type 0 where
  pub eight : length p.records ≡ most_transfers
  pub each : (k : ℕ) → k < p.used → record_at p k ≡ fresh_record (record_at p k).width

-- What can come: an event of a transfer.
abbrev pub PoolEvent : Type 0
PoolEvent = ℕ × Event

-- What the call answers, whether that is acceptance, and what it leaves.
abbrev pub answered : PoolState → PoolEvent → Outcome
answered s e = event_outcome s.pool s.list e.0 e.1

abbrev pub is_taken : PoolState → PoolEvent → Bool
is_taken s e = eqb (answered s e).number 0

abbrev pub pool_step : PoolState → PoolEvent → PoolState
pool_step s e = record { pool = event_pool s.pool s.list e.0 e.1; list = event_list s.pool s.list e.0 e.1 }

abbrev pub pool_run : PoolState → List PoolEvent → PoolState
pool_run s [] = s
pool_run s (e ∷ es) = pool_run (pool_step s e) es

-- The event is one of transfer k, and it is accepted.
abbrev pub takes : ℕ → PoolState → PoolEvent → Bool
takes k s e = eqb e.0 k && is_taken s e

-- A metadata event of transfer k is accepted, each judged at its turn.
abbrev pub came_of : ℕ → PoolState → List PoolEvent → Bool
came_of k s [] = false
came_of k s (e ∷ es) = (takes k s e && is_metadata e.1) || came_of k (pool_step s e) es

-- The data ranges of transfer k that are accepted while its metadata is known, from the start or since an accepted metadata event.
abbrev pub kept_from_of : ℕ → Bool → PoolState → List PoolEvent → List Range
kept_from_of k known s [] = []
kept_from_of k known s (e ∷ es) = kept_by (takes k s e && known) e.1 (kept_from_of k (known || (takes k s e && is_metadata e.1)) (pool_step s e) es)

abbrev pub kept_of : ℕ → PoolState → List PoolEvent → List Range
kept_of k s es = kept_from_of k false s es

-- How many events of transfer k are accepted.
abbrev pub accepted_of : ℕ → PoolState → List PoolEvent → ℕ
accepted_of k s [] = zero
accepted_of k s (e ∷ es) = cond (takes k s e) (suc (accepted_of k (pool_step s e) es)) (accepted_of k (pool_step s e) es)

-- The largest end of its data that is accepted, noticed or kept, and of the sizes that are.
abbrev pub largest_of : ℕ → PoolState → List PoolEvent → ℕ
largest_of k s [] = zero
largest_of k s (e ∷ es) = end_by (takes k s e) e.1 (largest_of k (pool_step s e) es)

-- The size that its events told: none, or one.
abbrev pub told_of : ℕ → PoolState → List PoolEvent → List ℕ
told_of k s [] = []
told_of k s (e ∷ es) = size_by (takes k s e) e.1 (told_of k (pool_step s e) es)

-- Offset x of transfer k is missing after the events: it is below the largest accepted end, and no kept range covers it.
abbrev pub MissingOf : ℕ → PoolState → List PoolEvent → ℕ → Type 0
MissingOf k s es x = (x < largest_of k s es) × (Covers x (kept_of k s es) → ⊥)

-- Offset x would be missing, were the data (offset, size) of transfer k accepted after the events, as for one reception.
abbrev pub WouldMissOf : ℕ → PoolState → List PoolEvent → ℕ → ℕ → ℕ → Type 0
WouldMissOf k s es offset size x =
    cond (came_of k s es)
    ((MissingOf k s es x × Outside offset (offset + size) x) ⊎ In x (range (largest_of k s es) offset))
    (x < max (largest_of k s es) (offset + size))

-- The same of an end of file with size z.
abbrev pub WouldMissTailOf : ℕ → PoolState → List PoolEvent → ℕ → ℕ → Type 0
WouldMissTailOf k s es z x = cond (came_of k s es) (MissingOf k s es x ⊎ In x (range (largest_of k s es) z)) (x < z)

-- What accepted data of transfer k is answered after the events.
abbrev pub kept_or_noticed_of : ℕ → PoolState → List PoolEvent → Outcome
kept_or_noticed_of k s es = cond (came_of k s es) (accepted (1 ∷ [])) (accepted (0 ∷ []))

-- The events of one reception as events of transfer 0.
abbrev pub of_first : List Event → List PoolEvent
of_first [] = []
of_first (e ∷ es) = (zero, e) ∷ of_first es
