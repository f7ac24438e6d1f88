-- The requests are written behind the first m pairs, and all are coalesced: no more runs than pairs.
use mathlib.Core.Path.{◌≡◌, ap, ap₂, ◌∙◌}
use mathlib.Core.List.{List, ◌++◌}
use Prim.Native.Nat.{ℕ, ◌+◌, ◌*◌, ◌≤◌}
use native.Mathlib.Omega.{arith}
use lib.ListN.{length, drop}
use Rattle.ranges.specs.Range.{Range}
use Rattle.ranges.specs.Store.{counted}
use Rattle.nak_parsing.specs.Step.{requests_given}
use Rattle.planning.specs.Check.{room_for}
use Rattle.ranges.proofs.Flat.{length-counted}
use Rattle.ranges.proofs.Stored.{counted-stored, drop-stored}
use Rattle.segment_store.specs.Coalesce.{maximal_runs}
use Rattle.plan_packets.proofs.Given.{few}
use Rattle.plan_packets.proofs.Pushed.{drop-later}
use Rattle.plan_packets.proofs.Runs.{runs-length}
use Rattle.plan_packets.proofs.inner.packets.gather.Goals as goal

pub put_requests-n-requires : goal.put_requests-n-requires
put_requests-n-requires c = rw c.read.ensures.requests (omega (arith, few c.args.edition c.args.packet.now))

pub coalesce_counted-requires : goal.coalesce_counted-requires
coalesce_counted-requires c = omega (arith, few c.args.edition c.args.packet.now, ap length c.read.ensures.requests, c.put_requests-n.ensures.value, c.put_requests-n.auto.scratch)

pub returns : goal.returns
returns c =
    let a = c.args in
    let p = c.put_requests-n in
    let o = c.coalesce_counted.ensures in
    let rs = counted p.new.scratch p.result in
    let all : rs ≡ counted a.scratch.now a.m ++ requests_given a.edition a.packet.now = p.ensures.pairs_after ∙ ap (λ (l : List Range). counted a.scratch.now a.m ++ l) c.read.ensures.requests in
    let n : p.result ≤ a.m + room_for a.packet.now = omega (arith, few a.edition a.packet.now, ap length c.read.ensures.requests, p.ensures.value) in
    let most : length (maximal_runs rs) ≤ p.result = omega (arith, runs-length rs, length-counted p.new.scratch p.result (omega (arith, n, p.auto.scratch))) in
    let t : ℕ = 2 * (a.m + room_for a.packet.now) in record {
      result_after = ap₂ counted o.list_after o.value ∙ counted-stored (maximal_runs rs) p.result p.new.scratch ∙ ap maximal_runs all;
      upper_bound = omega (arith, o.value, most, n);
      scratch_unchanged = ap (drop t) o.list_after
          ∙ drop-stored t (maximal_runs rs) p.result p.new.scratch (omega (arith, most, n)) (omega (arith, n))
          ∙ drop-later p.new.scratch a.scratch.now (2 * p.result) t (omega (arith, n)) p.ensures.scratch_unchanged;
    }
