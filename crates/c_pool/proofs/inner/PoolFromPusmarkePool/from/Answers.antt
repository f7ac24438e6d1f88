-- Each of the eight records is the one that C's stands for.
use Rattle.c_pool.proofs.inner.PoolFromPusmarkePool.from.Goals as goal

pub returns : goal.returns
returns c =
    rw (
      c.from-h.ensures,
      c.from-g.ensures,
      c.from-f.ensures,
      c.from-e.ensures,
      c.from-d.ensures,
      c.from-c.ensures,
      c.from-b.ensures,
      c.from-a.ensures,
    )
