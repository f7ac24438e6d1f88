-- `insert_between` meets its contract: the range goes between two, or takes the place of those that it overlaps or touches.
use Rattle.std.proofs.Common.{arith, ◌<◌, ◌∙◌}
use Rattle.inserting.proofs.Placed.{InsertRun, alone, joins, in_room, no_room}
use Rattle.inserting.proofs.inner.insert_between.Goals as goal
use Rattle.inserting.proofs.inner.insert_between.Goals.{After-near_above-j}

-- what the contract asks and the places found, by name
run : (b : After-near_above-j) → InsertRun b.args.list.now b.args.n b.args.s b.args.e b.args.room b.first_reaching-i.result b.near_above-j.result
run b =
    let p = b.requires in
    record {
      counts = p.n_le_room.0;
      lies = p.n_le_room.1.0;
      ordered = p.n_le_room.1.1.1;
      whole = p.coalesced;
      start = b.first_reaching-i.ensures.value;
      end = b.near_above-j.ensures.value;
      before = b.near_above-j.ensures.lower_bound.0;
      inside = b.near_above-j.ensures.lower_bound.1;
    }

pub returns-then-n-room : goal.returns-then-n-room
returns-then-n-room c =
    let a = c.args in
    let q = run (goal.at.returns-then-n-room c).After-near_above-j in
    let w = no_room a.list.now a.n a.s a.e a.room c.first_reaching-i.result c.near_above-j.result q c.if-i-j.true c.if-n-room.true in
    record { value = w.0; list_after = w.1 }

pub returns-then-i-j : goal.returns-then-i-j
returns-then-i-j c =
    let a = c.args in
    let i = c.first_reaching-i.result in
    let j = c.near_above-j.result in
    let q = run (goal.at.returns-then-i-j c).After-near_above-j in
    let w = in_room a.list.now a.n a.s a.e a.room i j q a.s a.e _ _ (alone a.list.now a.n a.s a.e a.room i j q c.if-i-j.true) (omega (arith, q.counts))
    c.replace.ensures.value c.replace.ensures.list_after in
    record { value = w.0; list_after = w.1 }

pub returns : goal.returns
returns c =
    let a = c.args in
    let i = c.first_reaching-i.result in
    let j = c.near_above-j.result in
    let q = run (goal.at.returns c).After-near_above-j in
    let less : i < j = omega (arith, q.before) in
    let w = in_room a.list.now a.n a.s a.e a.room i j q _ _ _ _
    (joins a.list.now a.n a.s a.e a.room i j q less ∙ rw (c.smaller-low.ensures, c.start_at.ensures, c.larger-high.ensures, c.end_at.ensures)) (omega (arith, q.counts))
    c.replace-2.ensures.value c.replace-2.ensures.list_after in
    record { value = w.0; list_after = w.1 }
