-- What is asked of a pool's transfer (document 02, C-21): 23 and 10 of the pool, then what the call of one reception answers over the
-- transfer's own part of the list.
use Rattle.std.specs.Prelude.{ℕ, List, length}
use Rattle.outcomes.specs.Outcome.{Outcome, lent}
use Rattle.outcomes.specs.Checks.{first_of}
use Rattle.holding.specs.Held.{held_outcome}
use Rattle.holding.specs.MissingOctets.{missing_octets_outcome}
use Rattle.sequence.specs.Sequence.{sequence_outcome, sequence_buffer}
use Rattle.sequence.specs.declared.Order.{Order}
use Rattle.pooling.specs.declared.Pool.{Pool}
use Rattle.pooling.specs.Pool.{record_at}
use Rattle.pooling.specs.Share.{own_part, pool_checks}

abbrev pub pool_held_outcome : Pool → List ℕ → ℕ → ℕ → ℕ → Outcome
pool_held_outcome p xs i a b = first_of (pool_checks p xs i) (held_outcome (record_at p i) (own_part p xs i) a b)

abbrev pub pool_missing_outcome : Pool → List ℕ → ℕ → Outcome
pool_missing_outcome p xs i = first_of (pool_checks p xs i) (missing_octets_outcome (record_at p i) (own_part p xs i))

abbrev pub pool_sequence_outcome : Pool → List ℕ → ℕ → Order → ℕ → Outcome
pool_sequence_outcome p xs i o given = first_of (pool_checks p xs i) (sequence_outcome (record_at p i) (own_part p xs i) o given)

-- The buffer afterwards.
abbrev pub pool_sequence_buffer : Pool → List ℕ → ℕ → Order → List ℕ → List ℕ
pool_sequence_buffer p xs i o buf = lent (pool_sequence_outcome p xs i o (length buf)) (sequence_buffer (record_at p i) (own_part p xs i) o buf) buf
