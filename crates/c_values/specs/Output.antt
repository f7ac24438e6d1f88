-- What C is handed back besides answers.
use Rattle.std.specs.Prelude.{ℕ, Bool, cond, List, [], ◌∷◌, get_or}
use Rattle.outcomes.specs.Outcome.{Outcome, lent}
use Rattle.octets.specs.declared.LargeFileFlag.{LargeFileFlag}
use Rattle.octets.specs.declared.LargeFileFlag.TheVariants.{Normal, Large}
use Rattle.reception.specs.declared.Reception.{Reception}
use Rattle.nak.specs.declared.Identity.{Identity}
use Rattle.nak_parsing.specs.declared.Parsed.{Parsed}
use Rattle.c_values.specs.declared.PusmarkeReception.{PusmarkeReception}
use Rattle.c_values.specs.declared.PusmarkeIdentity.{PusmarkeIdentity}
use Rattle.c_values.specs.declared.PusmarkeNak.{PusmarkeNak}
use Rattle.c_values.specs.declared.PusmarkeStep.{PusmarkeStep}

-- A mark: 1 is yes, 0 is no.
abbrev pub mark_of : Bool → ℕ
mark_of on = cond on 1 0

-- A record as C's, with the number `narrow` for its width.
abbrev pub record_out : ℕ → Reception → PusmarkeReception
record_out narrow rec =
    record { progress = rec.progress; count = rec.count; narrow = narrow; missing = mark_of rec.missing; sized = mark_of rec.sized; size = rec.size }

-- C's record after a data event that leaves the record `new`: its progress and count; the rest stays as handed over.
abbrev pub advanced_to : Reception → PusmarkeReception → PusmarkeReception
advanced_to new rec = record { progress = new.progress; count = new.count; narrow = rec.narrow; missing = rec.missing; sized = rec.sized; size = rec.size }

-- C's mark after a metadata event: as handed over while metadata is missing, and then 0.
abbrev pub mark_after : ℕ → Bool → ℕ
mark_after missing still = cond still missing 0

-- C's record with another mark.
abbrev pub marked : PusmarkeReception → ℕ → PusmarkeReception
marked rec mark = record { progress = rec.progress; count = rec.count; narrow = rec.narrow; missing = mark; sized = rec.sized; size = rec.size }

-- C's record after a metadata event that leaves the record `new`: only the mark may change.
abbrev pub marked_by : Reception → PusmarkeReception → PusmarkeReception
marked_by new rec = marked rec (mark_after rec.missing new.missing)

-- C's mark of the size after an EOF event with the outcome o: 1 where it is accepted, else as handed over.
abbrev pub sized_after : Outcome → ℕ → ℕ
sized_after o sized = lent o 1 sized

-- C's record after an EOF event with the outcome o that leaves the record `new`: its progress, count and size, and the mark; the rest
-- stays as handed over.
abbrev pub ended_by : Outcome → Reception → PusmarkeReception → PusmarkeReception
ended_by o new rec =
    record {
      progress = new.progress;
      count = new.count;
      narrow = rec.narrow;
      missing = rec.missing;
      sized = sized_after o rec.sized;
      size = new.size;
    }

-- The large file flag: 0 is normal, 1 is large.
abbrev pub flag_out : LargeFileFlag → ℕ
flag_out Normal = 0
flag_out Large = 1

abbrev pub identity_out : Identity → PusmarkeIdentity
identity_out d =
    record {
      entity_length = d.entity_length;
      number_length = d.number_length;
      source = d.source;
      number = d.number;
      destination = d.destination;
    }

-- What reading hands back, field by field.
abbrev pub nak_out : Parsed → PusmarkeNak
nak_out p =
    record {
      refusal = p.refusal;
      start = p.start;
      end = p.end;
      identity = identity_out p.identity;
      large = flag_out p.form.flag;
      crc = mark_of p.form.crc;
      scope_start = p.scope_start;
      scope_end = p.scope_end;
      from = p.from;
      to = p.to;
      next = p.next;
    }

-- 1 where a step has a request to give, and 0 where it has none.
abbrev pub found_in : List ℕ → ℕ
found_in [] = 0
found_in (_ ∷ _) = 1

-- A step's outcome, which is a request's start and end or nothing, and the place after it.
abbrev pub step_out : Outcome → ℕ → PusmarkeStep
step_out o at = record { found = found_in o.values; start = get_or o.values 0 0; end = get_or o.values 1 0; at = at }
