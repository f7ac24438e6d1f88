-- `own` meets its contract: what the checks leave known says that the transfer lies in the list.
use native.Mathlib.Omega.{arith}
use Rattle.sharing.proofs.Numbers.{numbers, ready-others}
use Rattle.sharing.proofs.inner.own.own.Goals as goal

pub transfer-requires : goal.transfer-requires
transfer-requires c =
    let a = c.args in
    let n = numbers a.pool a.list.now a.i (ready-others a.pool a.list.now a.i c.in_ok-pool_checks.ensures) in
    (omega (arith, n.few, n.known), (omega (arith, n.ends, n.all), omega (arith, n.ends, n.slots)))
