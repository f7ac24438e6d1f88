-- `no_room` meets its contract.
use borrow.Author.Tests.{lt-ltb, le-ltb, le-leb, lt-leb}
use Rattle.pooling.specs.Pool.{is_no_room}
use Rattle.sharing.proofs.inner.settings.no_room.Goals as goal

pub returns-then-pool-i : goal.returns-then-pool-i
unfolding is_no_room
returns-then-pool-i c = rw (lt-ltb _ _ c.if-pool-i.true)

pub returns-then-pool-i-2 : goal.returns-then-pool-i-2
unfolding is_no_room
returns-then-pool-i-2 c = rw (le-ltb _ _ c.if-pool-i.false, le-leb _ _ c.if-pool-i-2.true, c.claims.ensures)

pub returns-else-pool-i-2 : goal.returns-else-pool-i-2
unfolding is_no_room
returns-else-pool-i-2 c = rw (le-ltb _ _ c.if-pool-i.false, lt-leb _ _ c.if-pool-i-2.false)
