-- `pool_metadata_checks` meets its contract: 23, 10 of the other transfers, then the event's own checks over the transfer's part.
use mathlib.Core.Path.{◌∙◌}
use Rattle.outcomes.specs.Answered.{nothing}
use Rattle.outcomes.proofs.Answered.{handed_on}
use Rattle.reception.specs.Metadata.{mark_checks}
use Rattle.pooling.specs.Pool.{record_at}
use Rattle.sharing.proofs.Numbers.{own-refused, own-passed}
use Rattle.pool.proofs.metadata.pool_metadata_checks.Goals as goal

pub returns-in_err-rec : goal.returns-in_err-rec
returns-in_err-rec c =
    let a = c.args in
    let e = c.in_err-rec in
    handed_on nothing c.from_residual.result e.field-0.0 c.from_residual.ensures.1
    ∙ own-refused a.pool a.list.now a.i (mark_checks (record_at a.pool a.i)) e.field-0.0 e.ensures.checked

pub returns : goal.returns
returns c =
    let a = c.args in
    let o = c.in_ok-rec.ensures in
    own-passed a.pool a.list.now a.i (mark_checks (record_at a.pool a.i)) _ o.checked (rw (o.lent.0, o.lent.1) at c.metadata_checks.ensures)
