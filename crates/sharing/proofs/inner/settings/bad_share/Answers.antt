-- `bad_share` meets its contract.
use borrow.Author.Tests.{lt-ltb, le-ltb, eq-eqb, ne_eqb}
use Rattle.ranges.specs.Store.{most_pairs}
use Rattle.pooling.specs.Share.{is_bad_share}
use Rattle.sharing.proofs.inner.settings.bad_share.Goals as goal
use Rattle.sharing.proofs.inner.settings.bad_share.Goals.{then-list-eq1-via-then-list-eq1, then-list-eq1-via-else-list-eq1+then-slots-gt-MOST_SLOTS}

pub returns-then-list-eq1 : goal.returns-then-list-eq1
unfolding is_bad_share
returns-then-list-eq1 c =
    elim c.then-list-eq1.branch [
      | then-list-eq1-via-then-list-eq1 w ↦ rw (eq-eqb _ 1 w.if-list-eq1.true)
      | then-list-eq1-via-else-list-eq1+then-slots-gt-MOST_SLOTS w ↦ rw (ne_eqb _ 1 w.if-list-eq1.false, lt-ltb most_pairs _ w.if-slots-gt-MOST_SLOTS.true)
    ]

pub returns : goal.returns
unfolding is_bad_share
returns c = rw (ne_eqb _ 1 c.if-list-eq1.false, le-ltb most_pairs _ c.if-slots-gt-MOST_SLOTS.false) c.bad_claims.ensures
