-- `put_numbers`: no number has taken more than 21 places.
use Rattle.std.proofs.Common.{◌+◌, ◌*◌, ◌≤◌}
use Rattle.console_text.proofs.inner.print.put_numbers.Given as goal

abbrev pub invariant-loop-i : goal.invariant-loop-i
invariant-loop-i l = (256 ≤ l.at + 21 * l.i) × (l.at ≤ 256)
