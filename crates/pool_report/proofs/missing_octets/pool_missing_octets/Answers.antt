-- `pool_missing_octets` meets its contract: 23, 10 of the other transfers, then the call over the transfer's part.
use mathlib.Core.Path.{◌∙◌}
use mathlib.Core.List.{List, [], ◌∷◌}
use Prim.Native.Nat.{ℕ}
use Rattle.outcomes.specs.Outcome.{Outcome, accepted}
use Rattle.outcomes.specs.Answered.{itself}
use Rattle.outcomes.proofs.Answered.{handed_on}
use Rattle.holding.specs.MissingOctets.{missing_octets}
use Rattle.pooling.specs.declared.Pool.{Pool}
use Rattle.pooling.specs.Pool.{record_at}
use Rattle.pooling.specs.Share.{own_part}
use Rattle.pool_report.proofs.Asked.{refused-asked, passed-asked}
use Rattle.pool_report.proofs.missing_octets.pool_missing_octets.Goals as goal

-- what is said behind the checks
abbrev said : Pool → List ℕ → ℕ → Outcome
said p xs i = accepted (missing_octets (record_at p i) (own_part p xs i) ∷ [])

pub returns-in_err-rec : goal.returns-in_err-rec
returns-in_err-rec c =
    let s = c.args in
    let e = c.in_err-rec in
    handed_on itself c.from_residual.result e.field-0.0 c.from_residual.ensures.1
    ∙ refused-asked s.pool s.list.now s.i [] (said s.pool s.list.now s.i) e.field-0.0 e.ensures.checked

pub returns : goal.returns
returns c =
    let s = c.args in
    let o = c.in_ok-rec.ensures in
    passed-asked s.pool s.list.now s.i [] (said s.pool s.list.now s.i) _ o.checked (rw (o.lent.0, o.lent.1) at c.missing_octets.ensures)
