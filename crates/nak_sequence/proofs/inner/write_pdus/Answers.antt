-- `write_pdus` meets its contract: one PDU a turn, each behind the last.
use native.Mathlib.Omega.{arith}
use Prim.Native.Nat.{◌-◌}
use mathlib.Core.Path.{◌≡◌}
use Rattle.nak_sequence.specs.Inner.{entry_count}
use Rattle.sequence.specs.Entries.{asking_for}
use Rattle.sequence.proofs.Together.{begins_before}
use Rattle.nak_sequence.proofs.Listed.{count_le}
use Rattle.nak_sequence.proofs.Chain.{done-begin, done-room, done-step}
use Rattle.nak_sequence.proofs.inner.write_pdus.Goals as goal

pub loop-init : goal.loop-init
loop-init c =
    let a = c.args in
    done-begin (asking_for a.rec a.list.now a.order.form a.order.identity a.k) a.order.cursor a.pdus a.buf.now

pub write_pdu-at-requires : goal.write_pdu-at-requires
write_pdu-at-requires c =
    let l = c.loop in
    let a = c.args in
    let o = asking_for a.rec a.list.now a.order.form a.order.identity a.k in
    let t = begins_before (entry_count a.rec) a.order.cursor a.k l.counter (omega arith) (omega arith) in record {
      good_lengths = (c.requires.good_lengths.0, (c.requires.good_lengths.1.0, (omega arith, (omega arith, omega (arith, l.invariant.entry)))));
      f_in_bounds = done-room o a.order.cursor a.pdus a.buf.now l.buf l.at l.f l.counter l.invariant c.loop-test.true c.requires.pdus_in_bounds;
    }

pub overflow_add-f : goal.overflow_add-f
overflow_add-f c =
    let l = c.loop in
    let a = c.args in
    let t = begins_before (entry_count a.rec) a.order.cursor a.k l.counter (omega arith) (omega arith) in
    omega (arith, l.invariant.entry, count_le a.rec)

pub loop-preserved : goal.loop-preserved
loop-preserved c =
    let l = c.loop in
    let a = c.args in
    let o = asking_for a.rec a.list.now a.order.form a.order.identity a.k in
    let w = c.write_pdu-at.ensures in
    done-step o a.order.cursor a.pdus a.buf.now l.buf l.at l.f l.counter l.invariant c.loop-test.true c.requires.pdus_in_bounds _ _ w.value w.buf_after

pub returns : goal.returns
returns c =
    let l = c.loop in
    let a = c.args in
    let u = l.invariant.few in
    let e : l.counter ≡ a.pdus = omega arith in record {
      value = rw e at l.invariant.place;
      buf_after = rw e at l.invariant.octets;
    }
