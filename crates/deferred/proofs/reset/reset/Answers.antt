-- `reset` meets its contract: a refusal of the record's checks leaves the timer, else activity is judged anew.
use Rattle.std.proofs.Common.{refl, sym, ap, ◌∙◌, ℕ, Bool, cond, List, []}
use Rattle.outcomes.specs.Outcome.{accepted}
use Rattle.outcomes.specs.Checks.{Check}
use Rattle.outcomes.proofs.Ends.{passed-end}
use Rattle.reception.specs.Record.{record_checks, Passed}
use Rattle.deferring.specs.Timer.{gone_active, gone_idle}
use Rattle.deferring.specs.Reset.{restarted}
use Rattle.deferring.proofs.Hearing.{ok-passed, due_by_count}
use Rattle.deferred.proofs.reset.reset.Goals as goal

pub returns-then-is_ok : goal.returns-then-is_ok
returns-then-is_ok c =
    let a = c.args in
    let xs : List ℕ = a.list.now in
    let checks : List Check = record_checks a.rec xs in
    let n : Passed xs a.rec = ok-passed checks c.record_checks-answer.result c.record_checks-answer.ensures (sym c.if-is_ok.ensures.value) in
    let w = passed-end checks (accepted []) (accepted []) (restarted a.timer a.rec xs) a.timer n refl in
    let d = c.is_due.ensures ∙ due_by_count a.rec xs n in
    (c.record_checks-answer.ensures, (c.restart-timer.ensures ∙ ap (λ (b : Bool). cond b (gone_active a.timer) (gone_idle a.timer)) d) ∙ w.1)
