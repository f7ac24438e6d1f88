-- `plan::pusmarke_check_plan` says of C's numbers what the call that it wraps says of its own types.
use mathlib.Core.Path.{ap, ◌∙◌}
use Rattle.answers.specs.Answer.{answer_of}
use Rattle.pusmarke_c.proofs.plan.pusmarke_check_plan.Goals as goal

pub returns-clause-value : goal.returns-clause-value
returns-clause-value c =
    c.from.ensures ∙ ap answer_of (rw (c.from-own.ensures, c.from-asking.ensures, c.edition_in-edition.ensures) at c.check_plan.ensures.result_value)
