-- Pairs are the same exactly if their numbers are.
use mathlib.Core.Path.{sym, ap, ◌∙◌}
use Rattle.std.specs.Cmp.Lexicographic.{same_text}
use Rattle.ranges.specs.Store.{flat, pairs}
use Rattle.ranges.proofs.Flat.{flat-counted}
use Rattle.plan_passes.proofs.Sums.{same_self}
use Rattle.plan_passes.proofs.inner.union.same_pairs.Goals as goal

pub returns : goal.returns
returns c =
    let a = c.args in (
      λ t. ap pairs (same_text _ _ (sym t ∙ c.eq.ensures)),
      λ e. c.eq.ensures ∙ same_self (sym (flat-counted a.scratch.now a.m c.requires.0) ∙ ap flat e ∙ flat-counted a.list.now a.n c.requires.1),
    )
