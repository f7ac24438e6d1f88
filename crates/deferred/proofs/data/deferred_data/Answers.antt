-- `deferred_data` meets its contract: there is news where the data lowers the missing octets.
use Rattle.std.proofs.Common.{◌≡◌, sym, ◌∙◌, ℕ, true}
use mathlib.Core.Bool.{true≢false}
use Rattle.reception.specs.Data.{received_values, data_outcome}
use Rattle.reception.specs.History.{Data, State, is_accepted, step}
use Rattle.deferring.specs.Hear.{state_of}
use Rattle.deferring.proofs.Hearing.{ok_accepted, heard_by}
use Rattle.deferred.proofs.data.deferred_data.Goals as goal
use Rattle.deferred.proofs.data.deferred_data.Goals.{then-eq, else-eq}

-- data leaves the size known or not
sized-before : (s : State) (o n : ℕ) → is_accepted s (Data o n) ≡ true → (step s (Data o n)).rec.sized ≡ true → s.rec.sized ≡ true
sized-before s o n f h = rw f at h

pub returns : goal.returns
returns c =
    let a = c.args in
    let s = state_of a.rec.now a.list.now in
    let e = c.data_event-answer.ensures in
    let h = c.hear.ensures in
    let took = ok_accepted received_values c.data_event-answer.result (data_outcome a.rec.now a.list.now a.offset a.length) e.0 in
    let timer = h.timer ∙ heard_by a.timer s (Data a.offset a.length) _ _ _ took e.1.0
    (λ f g h. elim c.if-eq.branch [
      | then-eq w ↦ w.news-is ∙ w.would_lower-news.ensures f (sized-before s a.offset a.length f h)
      | else-eq w ↦ absurd (true≢false (sym (rw g at w.if-eq.ensures)))
    ]) in
    rw h.answer (e.0, (e.1.0, (e.1.1, timer)))
