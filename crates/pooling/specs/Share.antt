-- How the transfers of a pool share its one list, and the checks that every call begins with (document 02, C-21).
use Rattle.std.specs.Prelude.{ℕ, ◌+◌, ◌-◌, ◌*◌, ◌%◌, Bool, ◌||◌, cond, List, [], ◌∷◌, ◌++◌, leb, ltb, eqb, length, take, drop}
use Rattle.ranges.specs.Range.{Range}
use Rattle.ranges.specs.Store.{pairs, counted, capacity, most_pairs}
use Rattle.outcomes.specs.Checks.{Check}
use Rattle.outcomes.specs.declared.Refusal.TheVariants as refusal
use Rattle.reception.specs.Record.{is_bad_record}
use Rattle.reception.specs.History.{State}
use Rattle.pooling.specs.declared.Pool.{Pool}
use Rattle.pooling.specs.Pool.{record_at, count_at, limit_at, sum, any_below, is_bad_settings, claimed, is_no_room}

-- The transfers' ranges lie back to back, in order: those of transfer i behind those of the transfers before it.
abbrev pub base : Pool → ℕ → ℕ
base p i = sum (count_at p) i

-- How many ranges the pool holds, and which.
abbrev pub total : Pool → ℕ
total p = base p p.used

abbrev pub all_ranges : Pool → List ℕ → List Range
all_ranges p xs = counted xs (total p)

-- The numbers from place a up to but not including place e.
abbrev pub part : ℕ → ℕ → List ℕ → List ℕ
part a e xs = take (e - a) (drop a xs)

-- The part of the list where the ranges of transfer i lie, and the ranges.
abbrev pub own_part : Pool → List ℕ → ℕ → List ℕ
own_part p xs i = part (2 * base p i) (2 * (base p i + count_at p i)) xs

abbrev pub own_ranges : Pool → List ℕ → ℕ → List Range
own_ranges p xs i = pairs (own_part p xs i)

-- 23: bad settings, or a transfer that there is none of.
abbrev pub is_unknown : Pool → List ℕ → ℕ → Bool
is_unknown p xs i = is_bad_settings p (capacity xs) || leb p.used i

-- A count above its limit; a record that is 10 by itself, over its own part.
abbrev pub is_past_limit : Pool → ℕ → Bool
is_past_limit p k = ltb (limit_at p k) (count_at p k)

abbrev pub is_bad_transfer : Pool → List ℕ → ℕ → Bool
is_bad_transfer p xs k = is_bad_record (own_part p xs k) (record_at p k)

-- 10 of the numbers: an odd list, S above 4,096, a count above its limit, or the sum of the larger of held and floor above S.
unfoldable pub is_bad_share : Pool → List ℕ → Bool
is_bad_share p xs =
    eqb (length xs % 2) 1
    || (ltb most_pairs (capacity xs) || (any_below (is_past_limit p) p.used || ltb (capacity xs) (claimed p)))

-- 10: that, or a record of any transfer.
abbrev pub is_bad_pool : Pool → List ℕ → Bool
is_bad_pool p xs = is_bad_share p xs || any_below (is_bad_transfer p xs) p.used

-- Checks that every call begins with: 23, 10.
abbrev pub pool_checks : Pool → List ℕ → ℕ → List Check
pool_checks p xs i =
    (is_unknown p xs i, refusal.BadPool)
    ∷ (is_bad_pool p xs, refusal.BadStore)
    ∷ []

-- A free slot, or none where there is no room.
abbrev pub free_slot : Bool → List ℕ
free_slot no_room = cond no_room [] (0 ∷ 0 ∷ [])

-- The list that transfer i has for an event: its ranges, and one free slot where the pool has room for one range more.
abbrev pub own_list : Pool → List ℕ → ℕ → List ℕ
own_list p xs i = own_part p xs i ++ free_slot (is_no_room p (capacity xs) i)

-- So transfer i is a reception of its own.
abbrev pub own_state : Pool → List ℕ → ℕ → State
own_state p xs i = record { rec = record_at p i; list = own_list p xs i }
