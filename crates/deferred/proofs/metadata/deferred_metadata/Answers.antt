-- `deferred_metadata` meets its contract: the metadata event is news.
use Rattle.std.proofs.Common.{refl, ◌∙◌, true}
use Rattle.outcomes.specs.Answered.{nothing}
use Rattle.reception.specs.Metadata.{metadata_outcome}
use Rattle.reception.specs.History.{Metadata}
use Rattle.deferring.specs.Hear.{state_of}
use Rattle.deferring.proofs.Hearing.{ok_accepted, heard_by}
use Rattle.deferred.proofs.metadata.deferred_metadata.Goals as goal

pub returns : goal.returns
returns c =
    let a = c.args in
    let e = c.metadata_event-answer.ensures in
    let h = c.hear.ensures in
    let took = ok_accepted nothing c.metadata_event-answer.result (metadata_outcome a.rec.now a.list.now) e.0 in
    let timer = h.timer ∙ heard_by a.timer (state_of a.rec.now a.list.now) Metadata _ true _ took e.1 (λ f g h. refl) in
    rw h.answer (e.0, (e.1, timer))
