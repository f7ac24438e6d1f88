-- An outcome in numbers: its own, and the first three values, 0 where there is none. No refusal carries more.
use Rattle.std.specs.Prelude.{get_or}
use Rattle.outcomes.specs.Outcome.{Outcome}
use Rattle.outcomes.specs.declared.Told.{Told}

abbrev pub told_of : Outcome → Told
told_of o = record { number = o.number; first = get_or o.values 0 0; second = get_or o.values 1 0; third = get_or o.values 2 0 }
