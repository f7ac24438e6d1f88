-- The six tests of a plan (document 02, C-23), each of one PDU, and which PDU each of them blames.
use Rattle.std.specs.Prelude.{ℕ, zero, suc, ◌+◌, ◌-◌, Bool, false, ◌&&◌, ◌||◌, not, cond, List, [], ◌∷◌, ◌++◌, eqb, ltb}
use Rattle.ranges.specs.Range.{Range, some, inside}
use Rattle.ranges.specs.Store.{counted}
use Rattle.outcomes.specs.Checks.{Check}
use Rattle.outcomes.specs.declared.Refusal.TheVariants as refusal
use Rattle.nak.specs.declared.Identity.{Identity}
use Rattle.nak.specs.Request.{is_metadata, metadata_asked}
use Rattle.reception.specs.declared.Reception.{Reception}
use Rattle.holding.specs.Count.{is_covered}
use Rattle.planning.specs.Plan.{Plan, pdus, read_in, identity_in, scope_of, requests_of, asked_before, asked}

-- The first number below n of which t says true, or n.
abbrev pub first_below : (ℕ → Bool) → ℕ → ℕ
first_below t zero = zero
first_below t (suc n) = cond (ltb (first_below t n) n) (first_below t n) (cond (t n) n (suc n))

-- Some of the n offsets from s on passes the test t.
abbrev pub any_from : (ℕ → Bool) → ℕ → ℕ → Bool
any_from t s zero = false
any_from t s (suc n) = t (s + n) || any_from t s n

-- Some offset of the range passes the test t. A request (0, 0) has no offset.
abbrev pub some_offset : (ℕ → Bool) → Range → Bool
some_offset t r = any_from t r.start (r.end - r.start)

-- 1: PDU k does not read.
abbrev pub is_unread : Plan → ℕ → Bool
is_unread p k = not (eqb (read_in p k).refusal 0)

-- 2: PDU k carries another identity than d, the transfer's: another number, or another length. Its flags are not asked.
abbrev pub same_identity : Identity → Identity → Bool
same_identity c d =
    eqb c.entity_length d.entity_length
    && (eqb c.number_length d.number_length
    && (eqb c.source d.source && (eqb c.number d.number && eqb c.destination d.destination)))

abbrev pub is_other : Plan → Identity → ℕ → Bool
is_other p d k = not (same_identity (identity_in p k) d)

-- 3: a request of PDU k other than (0, 0) does not lie within its scope.
abbrev pub is_outside : Range → Range → Bool
is_outside scope r = not (is_metadata r) && not (inside r.start r.end scope)

abbrev pub is_beyond : Plan → ℕ → Bool
is_beyond p k = some (is_outside (scope_of p k)) (requests_of p k)

-- 4: one of the requests rs asks for an offset asked before, by the requests qs or by one before it among rs.
abbrev pub asks_again : List Range → List Range → Bool
asks_again qs [] = false
asks_again qs (r ∷ rs) = some_offset (is_covered qs) r || asks_again (qs ++ (r ∷ [])) rs

-- PDU k asks for an offset asked before, in an earlier PDU or in itself.
abbrev pub is_repeat : Plan → ℕ → Bool
is_repeat p k = asks_again (asked_before p k) (requests_of p k)

-- 5: an offset of one of the ranges rs is in none of the ranges qs.
abbrev pub is_more : List Range → List Range → Bool
is_more qs rs = some (some_offset (λ x. not (is_covered qs x))) rs

-- PDU k asks for an offset that is not missing; something missing is not asked for. ms is what is missing.
abbrev pub is_unwanted : Plan → List Range → ℕ → Bool
is_unwanted p ms k = is_more ms (requests_of p k)

abbrev pub is_left_out : Plan → List Range → Bool
is_left_out p ms = is_more (asked p) ms

-- 6: how often the metadata is to be asked for: once if it is missing, and otherwise not.
abbrev pub wanted : Reception → ℕ
wanted rec = cond rec.missing 1 0

-- With the requests of PDU k the metadata has been asked for more often. The first such PDU is that of an unwanted request, or of the second.
abbrev pub is_too_often : Plan → ℕ → ℕ → Bool
is_too_often p w k = ltb w (metadata_asked (asked_before p (suc k)))

-- It is wanted and absent.
abbrev pub is_absent : Plan → ℕ → Bool
is_absent p w = ltb (metadata_asked (asked p)) w

-- Test i over all n PDUs: it fails if a PDU is at fault, or if something lacks. 26 names the test and the first PDU at fault; where none is at fault,
-- the number of PDUs.
abbrev pub test : ℕ → ℕ → (ℕ → Bool) → Bool → Check
test i n fault lacks = (ltb (first_below fault n) n || lacks, refusal.BadPlan i (first_below fault n))

-- The tests, in order.
abbrev pub plan_tests : Reception → List ℕ → Identity → Plan → List Check
plan_tests rec xs d p =
    test 1 (pdus p) (is_unread p) false
    ∷ test 2 (pdus p) (is_other p d) false
    ∷ test 3 (pdus p) (is_beyond p) false
    ∷ test 4 (pdus p) (is_repeat p) false
    ∷ test 5 (pdus p) (is_unwanted p (counted xs rec.count)) (is_left_out p (counted xs rec.count))
    ∷ test 6 (pdus p) (is_too_often p (wanted rec)) (is_absent p (wanted rec))
    ∷ []
