-- `nak_checks::inner::requests::check_requests`: a pair that passes leaves the outcome to those behind it.
use Rattle.std.proofs.Common.{◌*◌, ◌/◌, arith, sym, ◌∙◌, [], drop, length, length-drop}
use Rattle.outcomes.specs.Answered.{nothing}
use Rattle.outcomes.specs.Outcome.{accepted}
use Rattle.outcomes.proofs.Answered.{handed_on}
use Rattle.nak.proofs.Flat.{chunk-turn, pairs-short}
use Rattle.nak.proofs.Requests.{passed_one, refused_one}
use Rattle.nak_checks.proofs.inner.requests.check_requests.Goals as goal

pub loop-s-preserved : goal.loop-s-preserved
loop-s-preserved c =
    let l = c.loop-s in
    let xs = c.args.requests.now in
    let t = chunk-turn xs (length xs / 2) l.s-index (omega (arith, c.as_chunks.ensures.front_len)) (omega arith) in
    sym (passed_one l.none c.in_ok-none.none (accepted []) t (rw c.as_chunks.ensures.front at c.in_ok-none.ensures)) ∙ l.invariant

pub returns-in_err-none : goal.returns-in_err-none
returns-in_err-none c =
    let l = c.loop-s in
    let xs = c.args.requests.now in
    let r = c.in_err-none in
    let t = chunk-turn xs (length xs / 2) l.s-index (omega (arith, c.as_chunks.ensures.front_len)) (omega arith) in
    handed_on nothing c.from_residual.result r.field-0.0 c.from_residual.ensures.1
    ∙ sym (refused_one l.none r.field-0.0 (accepted []) t (rw c.as_chunks.ensures.front at r.ensures)) ∙ l.invariant

pub returns : goal.returns
returns c =
    let l = c.loop-s in
    let xs = c.args.requests.now in
    rw (pairs-short (drop (2 * l.s-index) xs) (omega (arith, length-drop (2 * l.s-index) xs, c.as_chunks.ensures.front_len))) at l.invariant
