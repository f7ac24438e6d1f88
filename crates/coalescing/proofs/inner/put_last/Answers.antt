-- (s, e) is dropped, joins the last range, or goes behind it.
use Rattle.std.proofs.Common.{◌≡◌, ℕ, suc, ◌-◌, ◌<◌, ◌∙◌, arith}
use Rattle.ranges.specs.Store.{end_at}
use Rattle.coalescing.proofs.JoinLast.{put-none, put-joined, put-behind}
use Rattle.coalescing.proofs.inner.put_last.Goals as goal
use Rattle.coalescing.proofs.inner.put_last.Goals.{then-m-gt0+else-s-h, else-m-gt0}

pub returns-then-e-s : goal.returns-then-e-s
returns-then-e-s c =
    let a = c.args in
    let w = put-none a.list.now a.m a.s a.e (omega arith) c.if-e-s.true in
    record { value = w.0; list_after = w.1 }

pub returns-then-s-h : goal.returns-then-s-h
returns-then-s-h c =
    let a = c.args in
    let q = c.requires in
    let w =
    put-joined a.list.now a.m (a.m - 1) a.s a.e (omega arith) (omega arith) c.if-e-s.false q.coalesced q.low (omega (arith, c.end_at-h.ensures)) in
    record { value = w.0; list_after = c.put_end.ensures ∙ rw (c.max.ensures, c.end_at-h.ensures) w.1 }

pub returns : goal.returns
returns c =
    let a = c.args in
    let q = c.requires in
    -- the last range, if there is one, ends below s
    let below : (p : ℕ) → a.m ≡ suc p → end_at a.list.now p < a.s = elim c.if-m-gt0.branch [
      | then-m-gt0+else-s-h w ↦ λ p h. let f : p ≡ a.m - 1 = omega arith in rw f (omega (arith, w.end_at-h.ensures))
      | else-m-gt0 w ↦ λ p h. absurd (omega arith)
    ] in
    let w = put-behind a.list.now a.m a.s a.e (omega arith) c.if-e-s.false q.coalesced q.low below in
    record { value = w.0; list_after = c.put_pair.ensures ∙ w.1 }
