-- `any_too_large` meets its contract: none above top is above a larger number.
use Rattle.std.proofs.Common.{arith, sym, ◌∙◌, take}
use borrow.Author.Tests.{le-ltb}
use Rattle.ranges.proofs.Good.{still_none}
use Rattle.lost_segments.proofs.write_segments_to_bytes.any_too_large.Goals as goal

pub returns-else-largest-top : goal.returns-else-largest-top
returns-else-largest-top c =
    let a = c.args in
    le-ltb a.largest a.top (omega arith) ∙ sym (still_none a.top a.largest (take a.end a.list.now) (omega arith) c.requires.1)
