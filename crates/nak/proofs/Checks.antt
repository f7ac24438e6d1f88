-- What the checks of writing show: those of a NAK that is not refused, and of a PDU that was written.
use mathlib.Core.Path.{◌≡◌, refl, sym, ap}
use mathlib.Core.Bool.{true, false, not}
use mathlib.Core.List.{List, [], ◌∷◌, ◌++◌, append_assoc}
use Prim.Native.Nat.{ℕ, ◌*◌, ◌/◌, ◌%◌, ◌^◌, ◌≤◌, ◌<◌}
use native.Mathlib.Omega.{arith}
use lib.Dec.{eqb, ltb}
use lib.ListN.{length}
use lib.Seq.{take-length}
use borrow.Author.Tests.{eqb-false, ltb-false, ltb-true, lt-ltb, le-ltb, eq-eqb, ne_eqb, eqb-true, not-false}
use Rattle.ranges.proofs.Test.{or_false}
use Rattle.ranges.specs.Store.{pairs, any_above, most_numbers}
use Rattle.outcomes.specs.Outcome.{Outcome, accepted}
use Rattle.outcomes.specs.Checks.{Check, first_of, NoneOf}
use Rattle.outcomes.proofs.FirstOf.{first-none, first-accepted, first-refused, first-append}
use Rattle.outcomes.proofs.Refusals.{lent-refused}
use Rattle.outcomes.specs.Refusal.{refusing}
use Rattle.outcomes.specs.declared.Refusal.{Refusal}
use Rattle.outcomes.specs.declared.Refusal.TheVariants as refusal
use Rattle.octets.specs.Octets.{fits}
use Rattle.octets.specs.Flag.{largest_of}
use Rattle.nak.specs.declared.Identity.{Identity}
use Rattle.nak.specs.Header.{is_reserved_set}
use Rattle.nak.specs.Pdu.{Nak, pdu}
use Rattle.nak.specs.Request.{requests_checks}
use Rattle.nak.specs.Inner.{entries, GoodLengths}
use Rattle.nak.specs.Writer.{largest_pdu, is_bad_list, is_bad_length, is_bad_identity, numbers_of, nak_checks, nak_outcome, write_checks, write_outcome, written}

-- no test of either list is met
pub none-append : (cs ds : List Check) → NoneOf (cs ++ ds) → NoneOf cs × NoneOf ds
none-append [] ds n = (tt, n)
none-append (c ∷ cs) ds n = let w = none-append cs ds n.1 in ((n.0, w.0), w.1)

pub none_both : (cs ds : List Check) → NoneOf cs → NoneOf ds → NoneOf (cs ++ ds)
none_both [] ds m n = n
none_both (c ∷ cs) ds m n = (m.0, none_both cs ds m.1 n)

-- a list that 10 does not refuse: even, at most 4,096 pairs
pub good-list : (xs : List ℕ) → is_bad_list xs ≡ false → (length xs % 2 ≡ 0) × (length xs ≤ most_numbers)
unfolding is_bad_list
good-list xs e =
    let t = or_false (eqb (length xs % 2) 1) (ltb most_numbers (length xs)) e in
    let o = eqb-false (length xs % 2) 1 t.0 in
    let k = ltb-false most_numbers (length xs) t.1 in
    (omega arith, k)

good_length : (l : ℕ) → is_bad_length l ≡ false → (1 ≤ l) × (l ≤ 8)
good_length l e =
    let t = or_false (eqb l 0) (ltb 8 l) e in
    let o = eqb-false l 0 t.0 in
    (omega arith, ltb-false 8 l t.1)

-- an identity that 13 does not refuse
pub good-lengths : (d : Identity) → is_bad_identity d ≡ false → GoodLengths d
unfolding is_bad_identity
good-lengths d e =
    let t = or_false (is_bad_length d.entity_length) _ e in
    let u = or_false (is_bad_length d.number_length) _ t.1 in
    let i = good_length d.entity_length t.0 in
    let q = good_length d.number_length u.0 in
    record { entity_low = i.0; entity_high = i.1; number-low = q.0; number-high = q.1 }

-- each of its numbers fits
pub record GoodNumbers (d : Identity) : Type 0 where
  pub source : d.source < 256 ^ d.entity_length
  pub number : d.number < 256 ^ d.number_length
  pub destination : d.destination < 256 ^ d.entity_length

pub good-numbers : (d : Identity) → is_bad_identity d ≡ false → GoodNumbers d
unfolding is_bad_identity
good-numbers d e =
    let t = or_false (is_bad_length d.entity_length) _ e in
    let u = or_false (is_bad_length d.number_length) _ t.1 in
    let v = or_false (not (fits d.entity_length d.source)) _ u.1 in
    let w = or_false (not (fits d.number_length d.number)) _ v.1 in
    record {
      source = ltb-true _ _ (not-false _ v.0);
      number = ltb-true _ _ (not-false _ w.0);
      destination = ltb-true _ _ (not-false _ w.1);
    }

-- and the other way round
pub not_bad_identity : (d : Identity) → GoodLengths d → GoodNumbers d → is_bad_identity d ≡ false
unfolding is_bad_identity
not_bad_identity d l n =
    let i = l.entity_low in
    let q = l.number-low in
    rw (
      ne_eqb d.entity_length 0 (λ z. omega arith),
      le-ltb 8 d.entity_length l.entity_high,
      ne_eqb d.number_length 0 (λ z. omega arith),
      le-ltb 8 d.number_length l.number-high,
      lt-ltb d.source (256 ^ d.entity_length) n.source,
      lt-ltb d.number (256 ^ d.number_length) n.number,
      lt-ltb d.destination (256 ^ d.entity_length) n.destination,
    )

-- all pairs of a list of even length
pub all-entries : (xs : List ℕ) → length xs % 2 ≡ 0 → entries false xs 0 (length xs / 2) ≡ pairs xs
all-entries xs e =
    let k : 2 * (length xs / 2) ≡ length xs = omega arith in
    rw (k, take-length)

-- what a NAK that is not refused says
pub record NakFine (n : Nak) : Type 0 where
  pub identity : is_bad_identity n.identity ≡ false
  pub reserved : is_reserved_set n.form.edition n.form.flag ≡ false
  pub scope : n.scope.start ≤ n.scope.end
  pub requests : NoneOf (requests_checks n.requests)
  pub numbers : any_above (largest_of n.form.flag) (numbers_of n) ≡ false
  pub size : length (pdu n) ≤ largest_pdu

none_nak : (n : Nak) → NakFine n → NoneOf (nak_checks n)
none_nak n f =
    let scope = le-ltb n.scope.end n.scope.start f.scope in
    let size = le-ltb largest_pdu (length (pdu n)) f.size in
    (f.identity, (f.reserved, (scope, none_both (requests_checks n.requests) _ f.requests (f.numbers, (size, tt)))))

nak_none : (n : Nak) → NoneOf (nak_checks n) → NakFine n
nak_none n m =
    let w = none-append (requests_checks n.requests) _ m.1.1.1 in
    record {
      identity = m.0;
      reserved = m.1.0;
      scope = ltb-false n.scope.end n.scope.start m.1.1.0;
      requests = w.0;
      numbers = w.1.0;
      size = ltb-false largest_pdu (length (pdu n)) w.1.1.0;
    }

pub nak_of : (n : Nak) → (nak_outcome n).number ≡ 0 → NakFine n
unfolding nak_outcome
nak_of n z = nak_none n (first-accepted (nak_checks n) (accepted []) (eq-eqb _ 0 z)).0

pub fine_nak : (n : Nak) → NakFine n → nak_outcome n ≡ accepted []
unfolding nak_outcome
fine_nak n f = first-none (nak_checks n) (accepted []) (none_nak n f)

-- what no refusal of writing shows
pub record WriteFine (xs : List ℕ) (n : Nak) (given : ℕ) : Type 0 where
  pub list : is_bad_list xs ≡ false
  pub says : NakFine n
  pub size : given ≡ length (pdu n)

pub write_none : (xs : List ℕ) (n : Nak) (given : ℕ) → NoneOf (write_checks xs n given) → WriteFine xs n given
write_none xs n given m =
    let w = none-append (nak_checks n) _ m.1 in
    record { list = m.0; says = nak_none n w.0; size = eqb-true given (length (pdu n)) (not-false _ w.1.0) }

pub fine_write : (xs : List ℕ) (n : Nak) (given : ℕ) → WriteFine xs n given → write_outcome xs n given ≡ accepted (length (pdu n) ∷ [])
unfolding write_outcome
fine_write xs n given f =
    let size = ap not (eq-eqb given (length (pdu n)) f.size) in
    first-none (write_checks xs n given) _ (f.list, none_both (nak_checks n) _ (none_nak n f.says) (size, tt))

pub write_accepted : (xs : List ℕ) (n : Nak) (given : ℕ) → (write_outcome xs n given).number ≡ 0 → WriteFine xs n given
unfolding write_outcome
write_accepted xs n given z = write_none xs n given (first-accepted (write_checks xs n given) (accepted (length (pdu n) ∷ [])) (eq-eqb _ 0 z)).0

-- what a refusal of the checks answers and leaves
pub write_refused : (xs : List ℕ) (n : Nak) (buf : List ℕ) (r : Refusal) → refusing r ≡ first_of (write_checks xs n (length buf)) (accepted [])
    → (refusing r ≡ write_outcome xs n (length buf)) × (buf ≡ written xs n buf)
unfolding write_outcome
write_refused xs n buf r e =
    let o = first-refused (write_checks xs n (length buf)) r (accepted (length (pdu n) ∷ [])) e in
    (o, rw (← o) (sym (lent-refused r (pdu n) buf)))

-- and what they answer and leave where there is none
pub write_passed : (xs : List ℕ) (n : Nak) (buf : List ℕ) → WriteFine xs n (length buf)
    → (accepted (length (pdu n) ∷ []) ≡ write_outcome xs n (length buf)) × (pdu n ≡ written xs n buf)
write_passed xs n buf f = rw (fine_write xs n (length buf) f) (refl, refl)

-- which refusal comes first: 10; 13 where the list is right; 15 where the identity is too; and then 18
module _ (xs : List ℕ) (n : Nak) (given : ℕ) (behind : Outcome) where
  pub list-first : is_bad_list xs ≡ true → first_of (write_checks xs n given) behind ≡ refusing refusal.BadStore
  list-first a = rw a

  pub identity-first : is_bad_list xs ≡ false → is_bad_identity n.identity ≡ true → first_of (write_checks xs n given) behind ≡ refusing refusal.BadIdentity
  identity-first a b = rw (a, b)

  pub reserved-first :
      is_bad_list xs ≡ false
      → is_bad_identity n.identity ≡ false
      → is_reserved_set n.form.edition n.form.flag ≡ true
      → first_of (write_checks xs n given) behind ≡ refusing refusal.BadHeader
  reserved-first a b r = rw (a, b, r)

  pub scope-first :
      is_bad_list xs ≡ false
      → is_bad_identity n.identity ≡ false
      → is_reserved_set n.form.edition n.form.flag ≡ false
      → n.scope.end < n.scope.start
      → first_of (write_checks xs n given) behind ≡ refusing refusal.ScopeReversed
  scope-first a b r c = rw (a, b, r, lt-ltb n.scope.end n.scope.start c)

-- the checks of writing behind the requests: 7, 14, 6
abbrev pub last_checks : Nak → ℕ → List Check
last_checks n given =
    (any_above (largest_of n.form.flag) (numbers_of n), refusal.LargeSegmentForNormalFileSize)
    ∷ (ltb largest_pdu (length (pdu n)), refusal.PduSize)
    ∷ (not (eqb given (length (pdu n))), refusal.BufferSizeMissmatch (length (pdu n)) given)
    ∷ []

-- where 10, 13, 15 and 18 are passed, the requests are asked, and then these
pub from-requests :
    (xs : List ℕ) (n : Nak) (given : ℕ) (behind : Outcome)
    → is_bad_list xs ≡ false
    → is_bad_identity n.identity ≡ false
    → is_reserved_set n.form.edition n.form.flag ≡ false
    → n.scope.start ≤ n.scope.end
    → first_of (write_checks xs n given) behind ≡ first_of (requests_checks n.requests) (first_of (last_checks n given) behind)
from-requests xs n given behind a b r c =
    rw (a, b, r, le-ltb n.scope.end n.scope.start c, append_assoc (requests_checks n.requests)) (first-append (requests_checks n.requests) (last_checks n given) behind)
