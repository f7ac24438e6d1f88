-- `write_checks` meets its contract: what 10 passes has few octets, and no number above the width's limit.
use Rattle.std.proofs.Common.{arith, ◌≤◌, sym, ◌∙◌}
use Rattle.ranges.proofs.Good.{good}
use Rattle.segment_store.proofs.write_segments_to_bytes.Sizes.{field_length_le, few-octets}
use Rattle.lost_segments.proofs.write_segments_to_bytes.write_checks.Goals as goal

pub overflow_mul-needed-2 : goal.overflow_mul-needed-2
overflow_mul-needed-2 c =
    let g = good _ _ _ (sym c.bad_store.ensures ∙ c.if-bad_store.false) in
    let r = g.room in
    let k = g.small in
    let few : c.field_length.result ≤ 8 = omega (arith, field_length_le c.args.flag) in
    let m = few-octets c.args.st.count c.field_length.result (omega arith) few in
    omega arith

pub any_too_large-requires : goal.any_too_large-requires
any_too_large-requires c = let g = good _ _ _ (sym c.bad_store.ensures ∙ c.if-bad_store.false) in (g.room, g.below)
