-- What a sound record has, in numbers; the checks behind those of the record; and check 10 in its parts.
use mathlib.Core.Path.{◌≡◌, sym, ◌∙◌}
use mathlib.Core.Bool.{Bool, true, false, ◌||◌}
use mathlib.Core.List.{List, [], ◌∷◌, ◌++◌}
use Prim.Native.Nat.{ℕ, ◌≤◌, ◌<◌}
use lib.Dec.{eqb}
use borrow.Author.Tests.{eqb-true, ltb-false, not-false, lt-ltb, le-ltb}
use Rattle.ranges.specs.Range.{Coalesced, last_end}
use Rattle.ranges.specs.Store.{counted, limit_of, is_bad_store}
use Rattle.ranges.proofs.Test.{or_false, coalesced_of, of_coalesced}
use Rattle.ranges.proofs.Good.{Good, good}
use Rattle.outcomes.specs.Outcome.{Outcome, accepted}
use Rattle.outcomes.specs.Refusal.{refusing}
use Rattle.outcomes.specs.declared.Refusal.{Refusal}
use Rattle.outcomes.specs.Checks.{Check, first_of, NoneOf}
use Rattle.outcomes.proofs.FirstOf.{first-refused, first-append, first-none}
use Rattle.reception.specs.declared.Reception.{Reception}
use Rattle.reception.specs.Record.{is_waiting, is_wrong_wait, is_wrong_size, is_bad_record, record_checks, Passed}

pub record Sound (xs : List ℕ) (rec : Reception) : Type 0 where
  pub store : Good xs rec.count (limit_of rec.width)
  pub small : rec.progress ≤ limit_of rec.width
  pub waits : rec.missing ≡ true → is_waiting rec.progress (counted xs rec.count) ≡ true
  pub told : rec.sized ≡ true → rec.progress ≡ rec.size
  pub whole : Coalesced (counted xs rec.count)
  pub above : last_end (counted xs rec.count) ≤ rec.progress

pub sound : (xs : List ℕ) (rec : Reception) → Passed xs rec → Sound xs rec
unfolding is_bad_record
sound xs rec p =
    let a = or_false _ _ p.0 in
    let b = or_false _ _ a.1 in
    let c = or_false (is_wrong_wait xs rec) (is_wrong_size rec) b.1 in
    record {
      store = good xs rec.count (limit_of rec.width) a.0;
      small = ltb-false _ _ b.0;
      waits = λ m. not-false (is_waiting rec.progress (counted xs rec.count)) (rw m at c.0);
      told = λ m. eqb-true _ _ (not-false (eqb rec.progress rec.size) (rw m at c.1));
      whole = coalesced_of (counted xs rec.count) (not-false _ p.1.0);
      above = ltb-false _ _ p.1.1.0;
    }

-- and back
pub passed : (xs : List ℕ) (rec : Reception) → is_bad_record xs rec ≡ false → Coalesced (counted xs rec.count)
    → last_end (counted xs rec.count) ≤ rec.progress → Passed xs rec
passed xs rec e c h = (e, (rw (of_coalesced (counted xs rec.count) c), (le-ltb _ _ h, tt)))

-- of tests behind others, none is met exactly if none of either is
pub none-split : (cs ds : List Check) → NoneOf (cs ++ ds) → NoneOf cs × NoneOf ds
none-split [] ds n = (tt, n)
none-split (c ∷ cs) ds n = let w = none-split cs ds n.1 in ((n.0, w.0), w.1)

pub none-join : (cs ds : List Check) → NoneOf cs → NoneOf ds → NoneOf (cs ++ ds)
none-join [] ds n m = m
none-join (c ∷ cs) ds n m = (n.0, none-join cs ds n.1 m)

-- a sound record leaves the outcome to the checks behind those of the record
pub behind_record : (xs : List ℕ) (rec : Reception) → Passed xs rec → (cs : List Check) (behind : Outcome)
    → first_of cs behind ≡ first_of (record_checks rec xs ++ cs) behind
behind_record xs rec p cs behind = sym (first-append (record_checks rec xs) cs behind ∙ first-none (record_checks rec xs) (first_of cs behind) p)

-- a refusal of the record's checks is the outcome, whatever is behind them
pub refused_record : (xs : List ℕ) (rec : Reception) (r : Refusal) (cs : List Check) (behind : Outcome)
    → refusing r ≡ first_of (record_checks rec xs) (accepted []) → refusing r ≡ first_of (record_checks rec xs ++ cs) behind
refused_record xs rec r cs behind e = first-refused (record_checks rec xs) r (first_of cs behind) e ∙ sym (first-append (record_checks rec xs) cs behind)

-- check 10 in its parts
module _ (xs : List ℕ) (rec : Reception) where
  abbrev pub bad_store : Bool
  bad_store = is_bad_store xs rec.count (limit_of rec.width)

  pub ten_store : bad_store ≡ true → is_bad_record xs rec ≡ true
  unfolding is_bad_record
  ten_store e = rw e

  pub ten_progress : bad_store ≡ false → limit_of rec.width < rec.progress → is_bad_record xs rec ≡ true
  unfolding is_bad_record
  ten_progress e f = rw (e, lt-ltb _ _ f)

  pub ten_wait : bad_store ≡ false → rec.progress ≤ limit_of rec.width → is_bad_record xs rec ≡ (is_wrong_wait xs rec || is_wrong_size rec)
  unfolding is_bad_record
  ten_wait e f = rw (e, le-ltb _ _ f)
