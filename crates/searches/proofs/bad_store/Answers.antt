-- `bad_store` meets its contract: the shape, and then the numbers.
use Rattle.std.proofs.Common.{sym, ◌∙◌}
use Rattle.ranges.proofs.Good.{shape_bad, shape_fine}
use Rattle.searches.proofs.bad_store.Goals as goal

pub returns-then-bad_shape : goal.returns-then-bad_shape
returns-then-bad_shape c = c.if-bad_shape.true ∙ shape_bad _ _ _ (sym c.bad_shape.ensures.value ∙ c.if-bad_shape.true)

pub returns-else-bad_shape : goal.returns-else-bad_shape
returns-else-bad_shape c = c.any_above.ensures ∙ shape_fine _ _ _ (sym c.bad_shape.ensures.value ∙ c.if-bad_shape.false)
