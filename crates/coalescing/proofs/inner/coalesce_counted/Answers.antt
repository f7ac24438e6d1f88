-- The pairs in another order have the same maximal runs.
use Rattle.std.proofs.Common.{◌∙◌, ap, length, arith}
use Rattle.coalescing.proofs.Reordered.{same_runs, same-stored}
use Rattle.coalescing.proofs.inner.coalesce_counted.Goals as goal

pub returns : goal.returns
returns c =
    let s = c.sort_pairs.ensures.same in
    let m = c.merge_ascending.ensures in
    record {
      value = m.value ∙ ap length (same_runs c.args.list.now _ c.args.n (omega arith) s);
      list_after = m.list_after ∙ same-stored c.args.list.now _ c.args.n (omega arith) s;
    }
