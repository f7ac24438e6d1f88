-- C's pool after a call.
use Rattle.std.specs.Prelude.{ℕ, suc, cond, List, [], ◌∷◌, ltb, set}
use Rattle.outcomes.specs.Outcome.{Outcome, lent}
use Rattle.reception.specs.declared.Reception.{Reception}
use Rattle.reception.specs.Record.{fresh_record}
use Rattle.reception.specs.History.{Event, Data, Metadata, Eof}
use Rattle.pooling.specs.Pool.{most_transfers, record_at}
use Rattle.pooling.specs.Events.{event_outcome, event_pool}
use Rattle.c_values.specs.declared.PusmarkeReception.{PusmarkeReception}
use Rattle.c_values.specs.Input.{width_in}
use Rattle.c_values.specs.Output.{record_out, advanced_to, marked_by, ended_by}
use Rattle.c_pool.specs.declared.PusmarkePool.{PusmarkePool}
use Rattle.c_pool.specs.Input.{no_record, record_of, pool_in}

-- C's pool with another record of transfer i.
abbrev pub with_record : PusmarkePool → ℕ → PusmarkeReception → PusmarkePool
with_record c i r = record { used = c.used; records = set c.records i r; floors = c.floors; limits = c.limits }

-- C's record after an event with the outcome o that leaves the record `new`, as after that event of one reception.
abbrev pub record_after : Event → Outcome → Reception → PusmarkeReception → PusmarkeReception
record_after (Data offset size) o new rec = advanced_to new rec
record_after Metadata o new rec = marked_by new rec
record_after (Eof z) o new rec = ended_by o new rec

-- C's pool after the event e of transfer i: where it is accepted, that transfer's record is the one that the event leaves; every other
-- number stays as handed over.
abbrev pub pool_after : PusmarkePool → List ℕ → ℕ → Event → PusmarkePool
pool_after c xs i e =
    lent (event_outcome (pool_in c) xs i e)
    (with_record c i (record_after e (event_outcome (pool_in c) xs i e) (record_at (event_pool (pool_in c) xs i e) i) (record_of c i)))
    c

-- A pool without transfers: all numbers 0.
abbrev pub empty_pool : PusmarkePool
empty_pool =
    record {
      used = 0;
      records = no_record ∷ no_record ∷ no_record ∷ no_record ∷ no_record ∷ no_record ∷ no_record ∷ no_record ∷ [];
      floors = 0 ∷ 0 ∷ 0 ∷ 0 ∷ 0 ∷ 0 ∷ 0 ∷ 0 ∷ [];
      limits = 0 ∷ 0 ∷ 0 ∷ 0 ∷ 0 ∷ 0 ∷ 0 ∷ 0 ∷ [];
    }

-- The pool with one transfer more, which has a fresh record, this floor and this limit.
abbrev pub one_more : PusmarkePool → ℕ → ℕ → ℕ → PusmarkePool
one_more c narrow floor limit =
    record {
      used = suc c.used;
      records = set c.records c.used (record_out narrow (fresh_record (width_in narrow)));
      floors = set c.floors c.used floor;
      limits = set c.limits c.used limit;
    }

-- A pool of more than eight, which every call refuses by 23.
abbrev pub too_many : PusmarkePool → PusmarkePool
too_many c = record { used = suc most_transfers; records = c.records; floors = c.floors; limits = c.limits }

-- A transfer added: there is room for eight.
abbrev pub added : PusmarkePool → ℕ → ℕ → ℕ → PusmarkePool
added c narrow floor limit = cond (ltb c.used most_transfers) (one_more c narrow floor limit) (too_many c)
