-- `put_number`: each turn has put two digits.
use Rattle.std.proofs.Common.{◌+◌, ◌*◌, ◌≡◌}
use Rattle.console_text.proofs.inner.print.put_number.Given as goal

abbrev pub invariant-loop : goal.invariant-loop
invariant-loop l = l.at + 2 * l.counter ≡ l.end
