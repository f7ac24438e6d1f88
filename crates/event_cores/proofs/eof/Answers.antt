-- What the EOF event answers where no check before that of the room is met, and what each answer leaves in the record and in the list.
use mathlib.Core.Path.{◌≡◌, sym, ap, ◌∙◌}
use mathlib.Core.Bool.{true, false}
use mathlib.Core.List.{List, []}
use Prim.Native.Nat.{ℕ}
use lib.ListN.{length}
use Rattle.ranges.specs.Store.{capacity, stored}
use Rattle.outcomes.specs.Outcome.{Outcome, accepted, lent}
use Rattle.outcomes.specs.Refusal.{refusing}
use Rattle.outcomes.specs.Checks.{NoneOf}
use Rattle.outcomes.specs.declared.Refusal.TheVariants as refusal
use Rattle.outcomes.specs.declared.Refusal.{Refusal}
use Rattle.outcomes.proofs.Refusals.{lent-refused}
use Rattle.outcomes.proofs.FirstOf.{first-none}
use Rattle.reception.specs.declared.Reception.{Reception}
use Rattle.reception.specs.Record.{ended}
use Rattle.reception.specs.Data.{is_full}
use Rattle.reception.specs.Eof.{eof_leaves, eof_checks, tail_outcome, eof_outcome, eof_record, eof_list}

module _ (rec : Reception) (xs : List ℕ) (z : ℕ) where
  -- what is said of an answer: its outcome, the record and the list that it leaves
  abbrev pub Ends : Outcome → Reception → List ℕ → Type 0
  Ends o new ys = (o ≡ eof_outcome rec xs z) × ((new ≡ eof_record rec xs z) × (ys ≡ eof_list rec xs z))

  -- the record and the list that an outcome leaves
  left-record : (o : Outcome) → o ≡ eof_outcome rec xs z → lent o (ended rec z (length (eof_leaves rec xs z))) rec ≡ eof_record rec xs z
  left-record o e = ap (λ (p : Outcome). lent p (ended rec z (length (eof_leaves rec xs z))) rec) e

  left-list : (o : Outcome) → o ≡ eof_outcome rec xs z → lent o (stored (eof_leaves rec xs z) rec.count xs) xs ≡ eof_list rec xs z
  left-list o e = ap (λ (p : Outcome). lent p (stored (eof_leaves rec xs z) rec.count xs) xs) e

  -- a refusal leaves both as they were
  pub refused_by : (r : Refusal) → refusing r ≡ eof_outcome rec xs z → Ends (refusing r) rec xs
  refused_by r e = (
    e,
    (
      sym (lent-refused r (ended rec z (length (eof_leaves rec xs z))) rec) ∙ left-record (refusing r) e,
      sym (lent-refused r (stored (eof_leaves rec xs z) rec.count xs) xs) ∙ left-list (refusing r) e,
    ),
  )

  pub ended-by : (n : ℕ) → n ≡ length (eof_leaves rec xs z) → accepted [] ≡ eof_outcome rec xs z → Ends (accepted []) (ended rec z n) (stored (eof_leaves rec xs z) rec.count xs)
  ended-by n h e = (e, (ap (ended rec z) h ∙ left-record (accepted []) e, left-list (accepted []) e))

  -- no check is met: the room decides
  module _ (n : NoneOf (eof_checks rec xs z)) where
    from : (o : Outcome) → o ≡ tail_outcome rec xs z → o ≡ eof_outcome rec xs z
    from o e = e ∙ sym (first-none (eof_checks rec xs z) (tail_outcome rec xs z) n)

    pub no_room : is_full (capacity xs) (eof_leaves rec xs z) ≡ true → (refusing refusal.StoreFull) ≡ eof_outcome rec xs z
    no_room h = from (refusing refusal.StoreFull) (rw h)

    pub has_room : is_full (capacity xs) (eof_leaves rec xs z) ≡ false → accepted [] ≡ eof_outcome rec xs z
    has_room h = from (accepted []) (rw h)
