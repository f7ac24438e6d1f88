-- `pool_held` meets its contract: 23, 10 of the other transfers, then the call over the transfer's part.
use mathlib.Core.Path.{◌∙◌}
use mathlib.Core.Bool.{cond}
use mathlib.Core.List.{List, [], ◌∷◌}
use Prim.Native.Nat.{ℕ}
use Rattle.outcomes.specs.Outcome.{Outcome, accepted}
use Rattle.outcomes.specs.Answered.{yes_or_no}
use Rattle.outcomes.proofs.Answered.{handed_on}
use Rattle.holding.specs.Held.{span_checks, is_held}
use Rattle.pooling.specs.declared.Pool.{Pool}
use Rattle.pooling.specs.Pool.{record_at}
use Rattle.pooling.specs.Share.{own_part}
use Rattle.pool_report.proofs.Asked.{refused-asked, passed-asked}
use Rattle.pool_report.proofs.held.pool_held.Goals as goal

-- what is said behind the checks
abbrev said : Pool → List ℕ → ℕ → ℕ → ℕ → Outcome
said p xs i a b = cond (is_held (record_at p i) (own_part p xs i) a b) (accepted (1 ∷ [])) (accepted (0 ∷ []))

pub returns-in_err-rec : goal.returns-in_err-rec
returns-in_err-rec c =
    let s = c.args in
    let e = c.in_err-rec in
    handed_on yes_or_no c.from_residual.result e.field-0.0 c.from_residual.ensures.1
    ∙ refused-asked s.pool s.list.now s.i (span_checks s.a s.b) (said s.pool s.list.now s.i s.a s.b) e.field-0.0 e.ensures.checked

pub returns : goal.returns
returns c =
    let s = c.args in
    let o = c.in_ok-rec.ensures in
    passed-asked s.pool s.list.now s.i (span_checks s.a s.b) (said s.pool s.list.now s.i s.a s.b) _ o.checked (rw (o.lent.0, o.lent.1) at c.held.ensures)
