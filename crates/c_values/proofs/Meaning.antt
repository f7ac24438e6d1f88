-- What C's record stands for after an event is the record of the event's definition, and a refused event leaves C's record as it was.
use mathlib.Core.Path.{◌≡◌, refl, sym}
use mathlib.Core.Bool.{Bool, true, false, cond}
use mathlib.Core.List.{List}
use Prim.Native.Nat.{ℕ}
use lib.Dec.{eqb}
use borrow.Author.Tests.{eqb-true}
use lib.ListN.{length}
use Rattle.outcomes.specs.Outcome.{Outcome}
use Rattle.reception.specs.Record.{fresh_record, moved, known, ended}
use Rattle.reception.specs.Data.{data_outcome, data_record, advanced}
use Rattle.reception.specs.Metadata.{metadata_outcome, metadata_record}
use Rattle.reception.specs.Eof.{eof_leaves, eof_outcome, eof_record}
use Rattle.c_values.specs.Input.{is_set, width_in, record_in}
use Rattle.c_values.specs.Output.{record_out, advanced_to, mark_after, marked_by, ended_by}
use Rattle.c_values.specs.declared.PusmarkeReception.{PusmarkeReception}

pub fresh_means : (narrow : ℕ) → record_in (record_out narrow (fresh_record (width_in narrow))) ≡ fresh_record (width_in narrow)
fresh_means narrow = refl

-- a record with C's width and mark, or C's own
data_stands : (t : Bool) (c : PusmarkeReception) (p n : ℕ)
    → record_in (advanced_to (cond t (moved (record_in c) p n) (record_in c)) c) ≡ cond t (moved (record_in c) p n) (record_in c)
data_stands true c p n = refl
data_stands false c p n = refl

pub data_means : (c : PusmarkeReception) (xs : List ℕ) (offset size : ℕ)
    → record_in (advanced_to (data_record (record_in c) xs offset size) c) ≡ data_record (record_in c) xs offset size
data_means c xs offset size =
    let new = advanced (record_in c) xs offset size in
    data_stands (eqb (data_outcome (record_in c) xs offset size).number 0) c new.progress new.count

-- the mark of a record whose metadata is missing or known as C's mark says is C's mark
mark_stays : (m : ℕ) → mark_after m (is_set m) ≡ m
mark_stays m = go (eqb m 0) refl where
  go : (t : Bool) → eqb m 0 ≡ t → mark_after m (is_set m) ≡ m
  go true e = rw e (sym (eqb-true m 0 e))
  go false e = rw e refl

pub metadata-refused : (c : PusmarkeReception) → marked_by (record_in c) c ≡ c
metadata-refused c = rw (mark_stays c.missing) refl

pub data_refused : (c : PusmarkeReception) → advanced_to (record_in c) c ≡ c
data_refused c = refl

metadata-stands : (t : Bool) (c : PusmarkeReception)
    → record_in (marked_by (cond t (known (record_in c)) (record_in c)) c) ≡ cond t (known (record_in c)) (record_in c)
metadata-stands true c = refl
metadata-stands false c = rw (mark_stays c.missing) refl

pub metadata_means : (c : PusmarkeReception) (xs : List ℕ) → record_in (marked_by (metadata_record (record_in c) xs) c) ≡ metadata_record (record_in c) xs
metadata_means c xs = metadata-stands (eqb (metadata_outcome (record_in c) xs).number 0) c

-- the end of file: the size is known and C's mark says so, or all is C's own
eof_stands : (t : Bool) (c : PusmarkeReception) (z n : ℕ)
    → record_in (
    record {
      progress = (cond t (ended (record_in c) z n) (record_in c)).progress;
      count = (cond t (ended (record_in c) z n) (record_in c)).count;
      narrow = c.narrow;
      missing = c.missing;
      sized = cond t 1 c.sized;
      size = (cond t (ended (record_in c) z n) (record_in c)).size;
    }
    )
    ≡ cond t (ended (record_in c) z n) (record_in c)
eof_stands true c z n = refl
eof_stands false c z n = refl

pub eof_means : (c : PusmarkeReception) (xs : List ℕ) (z : ℕ)
    → record_in (ended_by (eof_outcome (record_in c) xs z) (eof_record (record_in c) xs z) c) ≡ eof_record (record_in c) xs z
eof_means c xs z = eof_stands (eqb (eof_outcome (record_in c) xs z).number 0) c z (length (eof_leaves (record_in c) xs z))

pub eof_refused : (c : PusmarkeReception) (o : Outcome) → eqb o.number 0 ≡ false → ended_by o (record_in c) c ≡ c
eof_refused c o e = rw e
