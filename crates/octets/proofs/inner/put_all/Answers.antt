-- One number more stands in the buffer after each turn.
use Rattle.std.proofs.Common.{◌≡◌, ◌+◌, ◌-◌, ◌*◌, ◌∙◌, arith, refl, sym, get_or, add-one, take, drop}
use native.Mathlib.Nat.{mul-zero, mul-suc, add-zero}
use Rattle.octets.specs.Octets.{field, with_octets}
use Rattle.octets.proofs.Turns.{put-all-turn, room-all}
use Rattle.octets.proofs.Over.{over_nothing}
use Rattle.octets.proofs.inner.put_all.Goals as goal

pub loop-v-init : goal.loop-v-init
loop-v-init c = (rw (mul-zero, add-zero) refl, sym (over_nothing c.args.buf.now c.args.at))

pub loop-v-preserved : goal.loop-v-preserved
loop-v-preserved c =
    let a = c.args in
    let l = c.loop-v in
    let i = l.v-index in
    let vs = take (a.from + a.n - a.from) (drop a.from a.list.now) in
    let k = room-all a.f i a.n (omega arith) in
    let e : c.put.new.buf ≡ with_octets l.buf (a.at + a.f * i) (field a.f (get_or vs i 0)) = rw l.invariant.0 at c.put.ensures in
    (rw (add-one, mul-suc) (omega arith), e ∙ rw l.invariant.1 (put-all-turn a.buf.now vs a.at a.f i (omega arith) c.loop-v-test.true))
