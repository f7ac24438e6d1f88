-- `write_pdus` meets its contract: one PDU a turn, each behind the last.
use Rattle.sequence.specs.Entries.{asking_for}
use Rattle.nak_sequence.proofs.Chain.{Done}
use Rattle.nak_sequence.proofs.inner.write_pdus.Given as goal

abbrev pub invariant-loop : goal.invariant-loop
invariant-loop l = Done (asking_for l.rec l.list l.order.form l.order.identity l.k) l.order.cursor l.pdus l.initial.buf l.buf l.at l.f l.counter
