-- Not of document 01: the number of entries as the inner functions count it, and what they ask of a record and its list.
use Rattle.std.specs.Prelude.{ℕ, ◌+◌, ◌*◌, ◌≤◌, cond, List, length}
use Rattle.reception.specs.declared.Reception.{Reception}
use Rattle.ranges.specs.Store.{most_pairs}

abbrev pub entry_count : Reception → ℕ
entry_count rec = cond rec.missing (rec.count + 1) rec.count

abbrev pub Listed : Reception → List ℕ → Type 0
Listed rec xs = (2 * rec.count ≤ length xs) × (rec.count ≤ most_pairs)
