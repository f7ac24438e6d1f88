-- `whole::pool_data_whole` meets its contract: an accepted event is one of a transfer in use.
use Prim.Native.Nat.{◌<◌}
use native.Mathlib.Omega.{arith}
use mathlib.Core.Path.{sym, ◌∙◌}
use Rattle.reception.specs.Data.{received_values}
use Rattle.pooling.specs.Pool.{most_transfers}
use Rattle.reception.specs.History.{Data}
use Rattle.c_pool.specs.Input.{pool_in}
use Rattle.c_pool.proofs.InUse.{in_use_by}
use Rattle.c_pool.proofs.whole.pool_data_whole.Goals as goal

pub offset_bounds-pool-i : goal.offset_bounds-pool-i
offset_bounds-pool-i c =
    let a = c.args in
    let said = rw c.from-own.ensures at c.pool_data_core-done.ensures in
    let inside : a.i < most_transfers = in_use_by received_values c.pool_data_core-done.result.answer (pool_in a.pool) a.list.now a.i (Data a.offset a.length) said.0
    (sym c.is_err.ensures.value ∙ c.if-is_err.false) in
    omega (arith, inside)

pub bounds-pool-i : goal.bounds-pool-i
bounds-pool-i c =
    let a = c.args in
    let said = rw c.from-own.ensures at c.pool_data_core-done.ensures in
    let inside : a.i < most_transfers = in_use_by received_values c.pool_data_core-done.result.answer (pool_in a.pool) a.list.now a.i (Data a.offset a.length) said.0
    (sym c.is_err.ensures.value ∙ c.if-is_err.false) in
    omega (arith, inside)

pub offset_bounds-done-i : goal.offset_bounds-done-i
offset_bounds-done-i c =
    let a = c.args in
    let said = rw c.from-own.ensures at c.pool_data_core-done.ensures in
    let inside : a.i < most_transfers = in_use_by received_values c.pool_data_core-done.result.answer (pool_in a.pool) a.list.now a.i (Data a.offset a.length) said.0
    (sym c.is_err.ensures.value ∙ c.if-is_err.false) in
    omega (arith, inside)

pub bounds-done-i : goal.bounds-done-i
bounds-done-i c =
    let a = c.args in
    let said = rw c.from-own.ensures at c.pool_data_core-done.ensures in
    let inside : a.i < most_transfers = in_use_by received_values c.pool_data_core-done.result.answer (pool_in a.pool) a.list.now a.i (Data a.offset a.length) said.0
    (sym c.is_err.ensures.value ∙ c.if-is_err.false) in
    omega (arith, inside)

pub with_record-requires : goal.with_record-requires
with_record-requires c =
    let a = c.args in
    let said = rw c.from-own.ensures at c.pool_data_core-done.ensures in
    let inside : a.i < most_transfers = in_use_by received_values c.pool_data_core-done.result.answer (pool_in a.pool) a.list.now a.i (Data a.offset a.length) said.0
    (sym c.is_err.ensures.value ∙ c.if-is_err.false) in
    omega (arith, inside)
