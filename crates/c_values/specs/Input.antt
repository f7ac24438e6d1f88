-- What the numbers that C hands over stand for.
use Rattle.std.specs.Prelude.{ℕ, Bool, not, cond, eqb}
use Rattle.ranges.specs.declared.Width.{Width}
use Rattle.ranges.specs.declared.Width.TheVariants.{Wide, Narrow}
use Rattle.octets.specs.declared.LargeFileFlag.{LargeFileFlag}
use Rattle.octets.specs.declared.LargeFileFlag.TheVariants.{Normal, Large}
use Rattle.segment_store.specs.declared.Store.{Store}
use Rattle.reception.specs.declared.Reception.{Reception}
use Rattle.nak.specs.declared.Edition.{Edition}
use Rattle.nak.specs.declared.Edition.TheVariants.{Older, Newer}
use Rattle.nak.specs.declared.Form.{Form}
use Rattle.nak.specs.declared.Identity.{Identity}
use Rattle.c_values.specs.declared.PusmarkeReception.{PusmarkeReception}
use Rattle.c_values.specs.declared.PusmarkeForm.{PusmarkeForm}
use Rattle.c_values.specs.declared.PusmarkeIdentity.{PusmarkeIdentity}

-- A mark: 0 is no, any other number is yes.
abbrev pub is_set : ℕ → Bool
is_set mark = not (eqb mark 0)

abbrev pub width_in : ℕ → Width
width_in narrow = cond (is_set narrow) Narrow Wide

abbrev pub flag_in : ℕ → LargeFileFlag
flag_in large = cond (is_set large) Large Normal

abbrev pub edition_in : ℕ → Edition
edition_in older = cond (is_set older) Older Newer

-- The form of a PDU, by its marks.
abbrev pub form_in : PusmarkeForm → Form
form_in g = record { edition = edition_in g.older; flag = flag_in g.large; crc = is_set g.crc }

-- The store with this count and width.
abbrev pub store_of : ℕ → ℕ → Store
store_of count narrow = record { count = count; width = width_in narrow }

abbrev pub record_in : PusmarkeReception → Reception
record_in rec =
    record {
      progress = rec.progress;
      count = rec.count;
      width = width_in rec.narrow;
      missing = is_set rec.missing;
      sized = is_set rec.sized;
      size = rec.size;
    }

abbrev pub identity_in : PusmarkeIdentity → Identity
identity_in d =
    record {
      entity_length = d.entity_length;
      number_length = d.number_length;
      source = d.source;
      number = d.number;
      destination = d.destination;
    }
