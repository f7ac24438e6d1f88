-- `deferred_eof` meets its contract: an end of file is no news.
use Rattle.std.proofs.Common.{sym, ◌∙◌, false}
use Rattle.outcomes.specs.Answered.{nothing}
use Rattle.reception.specs.Eof.{eof_outcome}
use Rattle.reception.specs.History.{Eof}
use Rattle.deferring.specs.Hear.{state_of}
use Rattle.deferring.proofs.Lowering.{eof_never}
use Rattle.deferring.proofs.Hearing.{accepted-passed, ok_accepted, heard_by}
use Rattle.deferred.proofs.eof.deferred_eof.Goals as goal

pub returns : goal.returns
returns c =
    let a = c.args in
    let s = state_of a.rec.now a.list.now in
    let e = c.eof_event-answer.ensures in
    let h = c.hear.ensures in
    let took = ok_accepted nothing c.eof_event-answer.result (eof_outcome a.rec.now a.list.now a.size) e.0 in
    let timer = h.timer ∙ heard_by a.timer s (Eof a.size) _ false _ took e.1.0 (λ f g h. sym (eof_never s (accepted-passed s (Eof a.size) f) a.size f)) in
    rw h.answer (e.0, (e.1.0, (e.1.1, timer)))
