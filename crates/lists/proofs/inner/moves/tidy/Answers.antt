-- `tidy` meets its contract: zeros over the slots given up, and none is where n is at most m.
use Rattle.std.proofs.Common.{arith, rules, refl, sym, ap, ℕ, ◌≡◌, ◌∙◌, ◌*◌, ◌-◌, [], replicate, length, take, drop}
use Rattle.std.proofs.Math.ListN.{length-replicate, length-drop}
use Rattle.std.proofs.lemmas.List.{length-take-le}
use Rattle.ranges.proofs.Over.{over_zero}
use Rattle.lists.proofs.Written.{over-part}
use Rattle.lists.proofs.inner.moves.tidy.Goals as goal

pub returns-then-m-n : goal.returns-then-m-n
returns-then-m-n c =
    let a = c.args in
    let z = 2 * a.n - 2 * a.m in
    let d = length-drop (2 * a.m) a.list.now in
    let n : length (take z (drop (2 * a.m) a.list.now)) ≡ z = length-take-le z (drop (2 * a.m) a.list.now) (omega arith) in
    let e = c.fill.ensures.after (λ y h. search rules) ∙ ap (λ (k : ℕ). replicate {A = ℕ} k 0) n in
    over-part a.list.now (2 * a.m) z z _ _ e refl (sym (length-replicate {A = ℕ} z 0))

pub returns-else-m-n : goal.returns-else-m-n
returns-else-m-n c =
    let a = c.args in
    let e : 2 * a.n - 2 * a.m ≡ 0 = omega arith in
    rw e (over_zero a.list.now (2 * a.m) [])
