-- What `merge_ascending` keeps: the pairs before k are merged in the first m.
use Rattle.coalescing.proofs.MergeLoop.{MergeLoop}
use Rattle.coalescing.proofs.inner.merge_ascending.Given as goal

abbrev pub invariant-loop-k : goal.invariant-loop-k
invariant-loop-k l = MergeLoop l.initial.list l.list l.n l.m l.k
