-- `held_before` meets its contract: the ranges held so far are counted.
use mathlib.Core.Path.{◌≡◌}
use Rattle.pooling.specs.Share.{base}
use Rattle.sharing.proofs.inner.settings.held_before.Given as goal

abbrev pub invariant-loop-rec : goal.invariant-loop-rec
invariant-loop-rec l = l.sum ≡ base l.fn.pool l.rec-index
