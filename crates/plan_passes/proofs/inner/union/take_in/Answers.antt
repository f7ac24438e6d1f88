-- `take_in` meets its contract: the octets are counted before and after the requests join.
use native.Mathlib.Omega.{arith}
use Prim.Native.Nat.{◌*◌, ◌≤◌}
use mathlib.Core.Path.{ap, ◌∙◌}
use mathlib.Core.Bool.{not}
use mathlib.Core.List.{◌++◌}
use lib.ListN.{length}
use Rattle.octets.proofs.Fields.{octets-all}
use Rattle.ranges.specs.Store.{counted}
use Rattle.nak_parsing.specs.Step.{requests_given}
use Rattle.holding.specs.Count.{octets_below}
use Rattle.segment_store.proofs.coalesce.Meaning.{runs-coalesced}
use Rattle.plan_passes.proofs.Numbers.{last_fits, no-fewer, again-added, taken}
use Rattle.plan_passes.proofs.inner.union.take_in.Goals as goal

pub octets_in-before-requires : goal.octets_in-before-requires
octets_in-before-requires c =
    let a = c.args in
    let h : 2 * a.m ≤ length a.scratch.now = omega (arith, c.requires.packet_in_bounds) in record {
      count_in_bounds = h;
      coalesced = (c.requires.coalesced.0, last_fits a.top c.requires.coalesced.1 a.scratch.now a.m h (λ i. omega (arith, c.slice_known-1.given i)));
    }

pub octets_in-after-requires : goal.octets_in-after-requires
octets_in-after-requires c =
    let a = c.args in
    let e = c.gather-count.ensures in
    let h : 2 * c.gather-count.result ≤ length c.gather-count.new.scratch = omega (arith, c.scratch-1.given, e.upper_bound, c.requires.packet_in_bounds) in record {
      count_in_bounds = h;
      coalesced = (
        rw e.result_after (runs-coalesced (counted a.scratch.now a.m ++ requests_given a.edition a.packet.now)),
        last_fits a.top c.requires.coalesced.1 c.gather-count.new.scratch c.gather-count.result h (λ i. omega (arith, c.slice_known-2-1.given i)),
      );
    }

pub overflow_sub-after : goal.overflow_sub-after
overflow_sub-after c =
    let a = c.args in
    let after = c.octets_in-after.ensures ∙ ap (octets_below a.top) c.gather-count.ensures.result_after in
    omega (arith, c.octets_in-before.ensures, after, no-fewer a.top c.requires.coalesced.1 a.edition a.packet.now (counted a.scratch.now a.m))

pub returns-clause-runs : goal.returns-clause-runs
returns-clause-runs c =
    let a = c.args in
    let after = c.octets_in-after.ensures ∙ ap (octets_below a.top) c.gather-count.ensures.result_after in
    let octets = octets-all a.packet.now (λ i. omega (arith, c.type_inv.packet i)) in
    let again = again-added a.top c.requires.coalesced.1 a.edition a.packet.now (counted a.scratch.now a.m) octets c.octets_in-before.result c.octets_in-after.result
    c.octets_in-before.ensures after in
    taken _ _ c.has_octets.result c.gather-count.result c.then_some.ensures (ap not c.has_octets.ensures ∙ again) c.gather-count.ensures.result_after c.gather-count.ensures.upper_bound
