-- The traced examples: what comes of each by the definitions is what document 01 says.
use mathlib.Core.Path.{◌≡◌, refl}
use mathlib.Core.List.{map}
use Rattle.ranges.specs.Store.{is_bad_store, stored}
use Rattle.segment_store.specs.Coalesce.{maximal_runs}
use Rattle.reception.specs.Record.{is_bad_record}
use Rattle.examples.specs.Example.{result}
use Rattle.examples.specs.Table.{Row, table}

pub as_the_paper-says : map (λ (r : Row). result r.example) table ≡ map (λ (r : Row). r.paper) table
unfolding is_bad_store stored maximal_runs is_bad_record
as_the_paper-says = refl
