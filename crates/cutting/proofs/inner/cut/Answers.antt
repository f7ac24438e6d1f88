-- `cut` meets its contract, by what is left of the run: two parts, one, or none.
use Rattle.ranges.proofs.Cutting.{CutRun, cut_full, cut_split, cut_right, cut_front, cut_whole}
use Rattle.cutting.proofs.inner.cut.Goals as goal
use Rattle.cutting.proofs.inner.cut.Goals.{After-end_at-e}

-- what the contract asks, by name
run : (b : After-end_at-e) → CutRun b.args.list.now b.args.n b.args.i b.args.j b.args.a b.args.b b.args.room
run b =
    let q = b.requires in
    record {
      some = q.i_lt_j.0;
      inside = q.i_lt_j.1.0;
      counts = q.i_lt_j.1.1.0;
      lies = q.i_lt_j.1.1.1.0;
      ordered = q.i_lt_j.1.1.1.1.1;
      whole = q.coalesced;
      start = q.i_value.0;
      end = q.i_value.1;
    }

pub returns-then-room-n : goal.returns-then-room-n
returns-then-room-n c =
    let a = c.args in
    let q = run (goal.at.returns-then-room-n c).After-end_at-e in
    let w = cut_full a.list.now a.n a.i a.j a.a a.b a.room q c.start_at-s.result c.end_at-e.result c.start_at-s.ensures c.end_at-e.ensures
    c.if-s-a.true c.if-b-e.true c.if-room-n.true in
    record { remains_value = w.0; part_value = w.1.0; list_after = w.1.1 }

pub returns-then-b-e : goal.returns-then-b-e
returns-then-b-e c =
    let a = c.args in
    let q = run (goal.at.returns-then-b-e c).After-end_at-e in
    let w = cut_split a.list.now a.n a.i a.j a.a a.b a.room q c.start_at-s.result c.end_at-e.result c.start_at-s.ensures c.end_at-e.ensures
    c.if-s-a.true c.if-b-e.true c.if-room-n.false _ _ c.replace.ensures.value c.replace.ensures.list_after in
    record { remains_value = w.0; part_value = w.1.0; list_after = w.1.1 }

pub returns-then-s-a : goal.returns-then-s-a
returns-then-s-a c =
    let a = c.args in
    let q = run (goal.at.returns-then-s-a c).After-end_at-e in
    let w = cut_right a.list.now a.n a.i a.j a.a a.b a.room q c.start_at-s.result c.end_at-e.result c.start_at-s.ensures c.end_at-e.ensures
    c.if-s-a.true c.if-b-e.false _ _ c.replace-then-s-a.ensures.value c.replace-then-s-a.ensures.list_after in
    record { remains_value = w.0; part_value = w.1.0; list_after = w.1.1 }

pub returns-then-b-e-2 : goal.returns-then-b-e-2
returns-then-b-e-2 c =
    let a = c.args in
    let q = run (goal.at.returns-then-b-e-2 c).After-end_at-e in
    let w = cut_front a.list.now a.n a.i a.j a.a a.b a.room q c.start_at-s.result c.end_at-e.result c.start_at-s.ensures c.end_at-e.ensures
    c.if-s-a.false c.if-b-e-2.true _ _ c.replace-then-b-e-2.ensures.value c.replace-then-b-e-2.ensures.list_after in
    record { remains_value = w.0; part_value = w.1.0; list_after = w.1.1 }

pub returns : goal.returns
returns c =
    let a = c.args in
    let q = run (goal.at.returns c).After-end_at-e in
    let w = cut_whole a.list.now a.n a.i a.j a.a a.b a.room q c.start_at-s.result c.end_at-e.result c.start_at-s.ensures c.end_at-e.ensures
    c.if-s-a.false c.if-b-e-2.false _ _ c.replace-2.ensures.value c.replace-2.ensures.list_after in
    record { remains_value = w.0; part_value = w.1.0; list_after = w.1.1 }
