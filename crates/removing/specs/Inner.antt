-- Not of the papers: the part that a cut says has left, in remove's numbers. Only `removed` and its callers cite it.
use Rattle.std.specs.Prelude.{ℕ}
use Rattle.ranges.specs.declared.inner.cut.Part.{Part}
use Rattle.ranges.specs.declared.inner.cut.Part.TheVariants as part

abbrev pub part_number : Part → ℕ
part_number part.Whole = 1
part_number part.Left = 2
part_number part.Right = 3
part_number part.Split = 4
