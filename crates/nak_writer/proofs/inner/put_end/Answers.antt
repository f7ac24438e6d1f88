-- `nak_writer::inner::put_end`: without a trailer nothing is put.
use Rattle.std.proofs.Common.{◌≡◌, false, arith, sym}
use borrow.Author.Tests.{not-true}
use Rattle.octets.proofs.Over.{over_nothing}
use Rattle.nak_writer.proofs.inner.put_end.Goals as goal

pub returns-then-not-form : goal.returns-then-not-form
returns-then-not-form c = let e : c.args.form.crc ≡ false = not-true _ c.if-not-form.true in rw e (omega arith, sym (over_nothing c.args.buf.now c.args.to))
