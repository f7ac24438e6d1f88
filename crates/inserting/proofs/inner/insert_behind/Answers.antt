-- `insert_behind` meets its contract: the last range grows, or there is one more.
use Rattle.std.proofs.Common.{arith, ℕ, suc, ◌≡◌, ◌-◌, ap, ◌∙◌, [], ◌∷◌, ◌++◌}
use Rattle.ranges.specs.Range.{range, last_end}
use Rattle.ranges.specs.Store.{counted, end_at}
use Rattle.ranges.specs.Insert.{insert}
use Rattle.ranges.proofs.Last.{last-counted}
use Rattle.inserting.proofs.Placed.{more_full, more-put, more-first, more-late, more-longer}
use Rattle.inserting.proofs.inner.insert_behind.Goals as goal
use Rattle.inserting.proofs.inner.insert_behind.Goals.{Joined-n-gt0, then-n-gt0+else-end_at-s, else-n-gt0}

-- where no range ends at s: one more
more : (c : Joined-n-gt0) → insert (range c.args.s c.args.e) (counted c.args.list.now c.args.n) ≡ counted c.args.list.now c.args.n ++ (range c.args.s c.args.e ∷ [])
more c =
    let a = c.args in
    let p = c.requires in
    let xs = a.list.now in
    elim c.if-n-gt0.branch [
      | then-n-gt0+else-end_at-s w ↦
          let n : a.n ≡ suc (a.n - 1) = omega arith in
          let l : last_end (counted xs a.n) ≡ end_at xs (a.n - 1) = ap (λ (k : ℕ). last_end (counted xs k)) n ∙ last-counted xs (a.n - 1) (omega arith) in
          more-late xs a.n a.s a.e a.room p.n_le_room.0 p.n_le_room.1.0 p.coalesced.0 (omega arith)
      | else-n-gt0 w ↦ more-first xs a.n a.s a.e a.room p.n_le_room.0 p.n_le_room.1.0 (omega arith)
    ]

pub returns-then-end_at-s : goal.returns-then-end_at-s
returns-then-end_at-s c =
    let a = c.args in
    let p = c.requires in
    let w = more-longer a.list.now a.n a.s a.e a.room p.n_le_room.0 p.n_le_room.1.0 p.coalesced.0 (a.n - 1) (omega arith) p.n_le_room.1.1 (omega arith) in
    record { value = w.0; list_after = c.put_end.ensures ∙ w.1 }

pub returns-then-n-room : goal.returns-then-n-room
returns-then-n-room c =
    let a = c.args in
    let p = c.requires in
    let w = more_full a.list.now a.n a.s a.e a.room p.n_le_room.0 p.n_le_room.1.0 (more (goal.at.returns-then-n-room c).Joined-n-gt0) c.if-n-room.true in
    record { value = w.0; list_after = w.1 }

pub returns : goal.returns
returns c =
    let a = c.args in
    let p = c.requires in
    let w = more-put a.list.now a.n a.s a.e a.room p.n_le_room.0 p.n_le_room.1.0 (more (goal.at.returns c).Joined-n-gt0) (omega arith) in
    record { value = w.0; list_after = c.put_pair.ensures ∙ w.1 }
