-- The pool that C's numbers stand for.
use Rattle.std.specs.Prelude.{ℕ, zero, suc, List, [], ◌∷◌, get_or}
use Rattle.reception.specs.declared.Reception.{Reception}
use Rattle.pooling.specs.declared.Pool.{Pool}
use Rattle.pooling.specs.Pool.{most_transfers}
use Rattle.c_values.specs.declared.PusmarkeReception.{PusmarkeReception}
use Rattle.c_values.specs.Input.{record_in}
use Rattle.c_pool.specs.declared.PusmarkePool.{PusmarkePool}

-- What is read past the eight: zeros.
abbrev pub no_record : PusmarkeReception
no_record = record { progress = 0; count = 0; narrow = 0; missing = 0; sized = 0; size = 0 }

-- C's record of transfer i.
abbrev pub record_of : PusmarkePool → ℕ → PusmarkeReception
record_of c i = get_or c.records i no_record

-- The records that n of C's stand for, from place k on.
abbrev pub records_in : List PusmarkeReception → ℕ → ℕ → List Reception
records_in rs k zero = []
records_in rs k (suc n) = record_in (get_or rs k no_record) ∷ records_in rs (suc k) n

-- Each of the eight records as C's record stands for one; the other numbers as they are.
abbrev pub pool_in : PusmarkePool → Pool
pool_in c = record { used = c.used; records = records_in c.records 0 most_transfers; floors = c.floors; limits = c.limits }
