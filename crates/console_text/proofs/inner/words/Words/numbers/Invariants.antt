-- `Words::numbers` is safe: it has taken no more numbers than the list has.
use Rattle.std.proofs.Common.{◌≤◌, length}
use Rattle.console_text.proofs.inner.words.Words.numbers.Given as goal

abbrev pub invariant-loop-word : goal.invariant-loop-word
invariant-loop-word l = l.count ≤ length l.list
