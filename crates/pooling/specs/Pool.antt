-- A pool of transfers and its settings (document 02, C-21).
use Rattle.std.specs.Prelude.{ℕ, zero, suc, ◌+◌, ◌≤◌, ◌<◌, max, ◌≡◌, ◌⊎◌, Bool, false, ◌&&◌, ◌||◌, List, [], ◌∷◌, leb, ltb, eqb, get_or, set}
use Rattle.ranges.specs.declared.Width.{Width}
use Rattle.ranges.specs.declared.Width.TheVariants.{Wide}
use Rattle.reception.specs.Record.{fresh_record}
use Rattle.reception.specs.declared.Reception.{Reception}
use Rattle.pooling.specs.declared.Pool.{Pool}

-- A pool has at most eight transfers.
abbrev pub most_transfers : ℕ
most_transfers = 8

-- What is read past the eight: zeros.
abbrev pub nowhere : Reception
nowhere = record { progress = 0; count = 0; width = Wide; missing = false; sized = false; size = 0 }

-- The record of transfer i, the ranges that it holds, its floor and its limit.
abbrev pub record_at : Pool → ℕ → Reception
record_at p i = get_or p.records i nowhere

abbrev pub count_at : Pool → ℕ → ℕ
count_at p i = (record_at p i).count

abbrev pub floor_at : Pool → ℕ → ℕ
floor_at p i = get_or p.floors i 0

abbrev pub limit_at : Pool → ℕ → ℕ
limit_at p i = get_or p.limits i 0

-- The pool with another record of transfer i.
abbrev pub with_record : Pool → ℕ → Reception → Pool
with_record p i r = record { used = p.used; records = set p.records i r; floors = p.floors; limits = p.limits }

-- The sum of f over the first n transfers; f is true of one of them.
abbrev pub sum : (ℕ → ℕ) → ℕ → ℕ
sum f zero = zero
sum f (suc n) = sum f n + f n

abbrev pub any_below : (ℕ → Bool) → ℕ → Bool
any_below f zero = false
any_below f (suc n) = any_below f n || f n

-- A floor above its limit.
abbrev pub is_floor_above : Pool → ℕ → Bool
is_floor_above p k = ltb (limit_at p k) (floor_at p k)

-- 23, of S slots: more than eight transfers, a floor above its limit, or floors summing to more than S.
unfoldable pub is_bad_settings : Pool → ℕ → Bool
is_bad_settings p S =
    ltb most_transfers p.used
    || (any_below (is_floor_above p) p.used || ltb S (sum (floor_at p) p.used))

-- The larger of held and floor, and its sum over all transfers.
abbrev pub claim_at : Pool → ℕ → ℕ
claim_at p k = max (count_at p k) (floor_at p k)

abbrev pub claimed : Pool → ℕ
claimed p = sum (claim_at p) p.used

-- With m ranges held, an event that would make it m + 1 is refused: m + 1 passes the limit, or m is at or above the floor and the sum
-- of the larger of held and floor is S.
abbrev pub NoRoom : Pool → ℕ → ℕ → Type 0
NoRoom p S i = (limit_at p i < count_at p i + 1) ⊎ ((floor_at p i ≤ count_at p i) × (claimed p ≡ S))

-- The same as a test.
unfoldable pub is_no_room : Pool → ℕ → ℕ → Bool
is_no_room p S i = ltb (limit_at p i) (count_at p i + 1) || (leb (floor_at p i) (count_at p i) && eqb (claimed p) S)

-- A fresh pool: fresh records, each of its own width.
abbrev pub fresh_records : List Width → ℕ → ℕ → List Reception
fresh_records ws k zero = []
fresh_records ws k (suc n) = fresh_record (get_or ws k Wide) ∷ fresh_records ws (suc k) n

abbrev pub fresh_pool : ℕ → List Width → List ℕ → List ℕ → Pool
fresh_pool used ws floors limits = record { used = used; records = fresh_records ws 0 most_transfers; floors = floors; limits = limits }
