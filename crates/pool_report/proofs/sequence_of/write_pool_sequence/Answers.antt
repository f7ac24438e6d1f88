-- `write_pool_sequence` meets its contract: 23, 10 of the other transfers, then the call over the transfer's part.
use mathlib.Core.Path.{◌∙◌}
use mathlib.Core.List.{List, ◌++◌}
use Prim.Native.Nat.{ℕ}
use lib.ListN.{length, drop}
use Rattle.outcomes.specs.Outcome.{Outcome}
use Rattle.outcomes.specs.Checks.{Check}
use Rattle.outcomes.proofs.Answered.{handed_on}
use Rattle.sequence.specs.declared.Order.{Order}
use Rattle.sequence.specs.Sequence.{order_checks, reported, asked, sent, sent_values}
use Rattle.pooling.specs.declared.Pool.{Pool}
use Rattle.pooling.specs.Pool.{record_at}
use Rattle.pooling.specs.Share.{own_part}
use Rattle.pool_report.proofs.Asked.{refused-asked, passed-asked, refused-lent, passed-lent}
use Rattle.pool_report.proofs.sequence_of.write_pool_sequence.Goals as goal

module _ (p : Pool) (xs : List ℕ) (i : ℕ) (o : Order) (buf : List ℕ) where
  -- the checks behind those of the record, what is said behind them, and the buffer that is then left
  abbrev checks : List Check
  checks = order_checks (record_at p i) (own_part p xs i) o (length buf)

  abbrev said : Outcome
  said = reported (asked (record_at p i) (own_part p xs i) o) o

  abbrev written : List ℕ
  written = let s = sent (asked (record_at p i) (own_part p xs i) o) o in s ++ drop (length s) buf

pub returns-in_err-rec : goal.returns-in_err-rec
returns-in_err-rec c =
    let a = c.args in
    let e = c.in_err-rec in
    let p = a.pool in
    let xs = a.list.now in
    let o = a.order in
    let buf = a.buf.now in
    record {
      result_value = handed_on sent_values c.from_residual.result e.field-0.0 c.from_residual.ensures.1
          ∙ refused-asked p xs a.i (checks p xs a.i o buf) (said p xs a.i o buf) e.field-0.0 e.ensures.checked;
      buf_after = refused-lent p xs a.i (checks p xs a.i o buf) (said p xs a.i o buf) e.field-0.0 e.ensures.checked _ buf;
    }

pub returns : goal.returns
returns c =
    let a = c.args in
    let p = a.pool in
    let xs = a.list.now in
    let o = a.order in
    let buf = a.buf.now in
    let g = c.in_ok-rec.ensures in
    let e = rw (g.lent.0, g.lent.1) at c.write_nak_sequence.ensures in
    record {
      result_value = passed-asked p xs a.i (checks p xs a.i o buf) (said p xs a.i o buf) _ g.checked e.result_value;
      buf_after = passed-lent p xs a.i (checks p xs a.i o buf) (said p xs a.i o buf) g.checked (written p xs a.i o buf) buf _ e.buf_after;
    }
