-- What the data event answers where no check before that of the room is met, and what each answer leaves in the record and in the list.
use mathlib.Core.Path.{◌≡◌, sym, ap, ◌∙◌}
use mathlib.Core.Bool.{Bool, true, false, cond}
use mathlib.Core.List.{List, [], ◌∷◌}
use Prim.Native.Nat.{ℕ}
use Rattle.ranges.specs.Store.{capacity, stored}
use Rattle.outcomes.specs.Outcome.{Outcome, accepted, lent}
use Rattle.outcomes.specs.Refusal.{refusing}
use Rattle.outcomes.specs.Checks.{NoneOf}
use Rattle.outcomes.specs.declared.Refusal.TheVariants as refusal
use Rattle.outcomes.specs.declared.Refusal.{Refusal}
use Rattle.outcomes.proofs.Refusals.{lent-refused}
use Rattle.outcomes.proofs.FirstOf.{first-none}
use Rattle.reception.specs.declared.Reception.{Reception}
use Rattle.reception.specs.Record.{moved}
use Rattle.reception.specs.Data.{data_leaves, is_full, data_checks, room_outcome, advanced, data_outcome, data_record, data_list}

pub same-moved : (rec : Reception) (p q m n : ℕ) → p ≡ q → m ≡ n → moved rec p m ≡ moved rec q n
same-moved rec p q m n e f = rw (e, f)

module _ (rec : Reception) (xs : List ℕ) (offset size : ℕ) where
  -- what is said of an answer: its outcome, the record and the list that it leaves
  abbrev pub Ends : Outcome → Reception → List ℕ → Type 0
  Ends o new ys = (o ≡ data_outcome rec xs offset size) × ((new ≡ data_record rec xs offset size) × (ys ≡ data_list rec xs offset size))

  -- the record and the list that an outcome leaves
  left-record : (o : Outcome) → o ≡ data_outcome rec xs offset size → lent o (advanced rec xs offset size) rec ≡ data_record rec xs offset size
  left-record o e = ap (λ (p : Outcome). lent p (advanced rec xs offset size) rec) e

  left-list : (o : Outcome) → o ≡ data_outcome rec xs offset size → lent o (stored (data_leaves rec xs offset size) rec.count xs) xs ≡ data_list rec xs offset size
  left-list o e = ap (λ (p : Outcome). lent p (stored (data_leaves rec xs offset size) rec.count xs) xs) e

  -- a refusal leaves both as they were
  pub refused_by : (r : Refusal) → refusing r ≡ data_outcome rec xs offset size → Ends (refusing r) rec xs
  refused_by r e = (
    e,
    (
      sym (lent-refused r (advanced rec xs offset size) rec) ∙ left-record (refusing r) e,
      sym (lent-refused r (stored (data_leaves rec xs offset size) rec.count xs) xs) ∙ left-list (refusing r) e,
    ),
  )

  -- the event is noticed while the metadata is missing, else kept
  abbrev pub mark : Bool → Outcome
  mark m = accepted (cond m (0 ∷ []) (1 ∷ []))

  pub taken_by : (m : Bool) → mark m ≡ data_outcome rec xs offset size → Ends (mark m) (advanced rec xs offset size) (stored (data_leaves rec xs offset size) rec.count xs)
  taken_by m e = (e, (left-record (mark m) e, left-list (mark m) e))

  -- no check is met: the room decides
  module _ (n : NoneOf (data_checks rec xs offset size)) where
    from : (o : Outcome) → o ≡ room_outcome rec xs offset size → o ≡ data_outcome rec xs offset size
    from o e = e ∙ sym (first-none (data_checks rec xs offset size) (room_outcome rec xs offset size) n)

    pub no_room : is_full (capacity xs) (data_leaves rec xs offset size) ≡ true → (refusing refusal.StoreFull) ≡ data_outcome rec xs offset size
    no_room h = from (refusing refusal.StoreFull) (rw h)

    pub has_room : (m : Bool) → rec.missing ≡ m → is_full (capacity xs) (data_leaves rec xs offset size) ≡ false → mark m ≡ data_outcome rec xs offset size
    has_room true e h = from (accepted (0 ∷ [])) (rw (h, e))
    has_room false e h = from (accepted (1 ∷ [])) (rw (h, e))
