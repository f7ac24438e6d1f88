-- `bad_settings` meets its contract.
use borrow.Author.Tests.{lt-ltb, le-ltb}
use Rattle.pooling.specs.Pool.{most_transfers, is_bad_settings}
use Rattle.sharing.proofs.inner.settings.bad_settings.Goals as goal

pub returns-then-pool-gt-MOST_TRANSFERS : goal.returns-then-pool-gt-MOST_TRANSFERS
unfolding is_bad_settings
returns-then-pool-gt-MOST_TRANSFERS c = rw (lt-ltb most_transfers _ c.if-pool-gt-MOST_TRANSFERS.true)

pub returns-else-pool-gt-MOST_TRANSFERS : goal.returns-else-pool-gt-MOST_TRANSFERS
unfolding is_bad_settings
returns-else-pool-gt-MOST_TRANSFERS c = rw (le-ltb most_transfers _ c.if-pool-gt-MOST_TRANSFERS.false) c.bad_floors.ensures
