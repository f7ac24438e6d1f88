-- `write` meets its contract: the numbers of the pairs, written over as many.
use Rattle.std.proofs.Common.{arith, ap, ℕ, ◌≡◌, ◌∙◌, ◌+◌, ◌*◌, ◌-◌, length, flat_map}
use Rattle.lists.proofs.Written.{flat-pairs, length-pairs, over-part}
use Rattle.lists.proofs.inner.moves.write.Goals as goal
use Rattle.lists.proofs.inner.moves.write.Goals.{After-as_flattened}

-- two numbers for each pair
twice : (c : After-as_flattened) → length (flat_map {A = ℕ} (λ p. p) c.args.pairs.now) ≡ 2 * length c.args.pairs.now
twice c = omega (arith, ap length c.as_flattened.ensures.value, c.as_flattened.ensures.len)

pub returns-clause-size : goal.returns-clause-size
returns-clause-size c = length-pairs _ (length c.args.pairs.now) (twice (goal.at.returns-clause-size c).After-as_flattened)

pub returns-clause-list_after : goal.returns-clause-list_after
returns-clause-list_after c =
    let a = c.args in
    let k = length a.pairs.now in
    let e = twice (goal.at.returns-clause-list_after c).After-as_flattened in
    rw (flat-pairs _ k e)
    (over-part a.list.now (2 * a.i) (2 * (a.i + k) - 2 * a.i) (2 * k) _ _ (c.copy_from_slice.ensures.after ∙ c.as_flattened.ensures.value) (omega arith) (omega arith))
