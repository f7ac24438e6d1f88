-- `nak_parser::inner::check_packet`: a request that passes leaves the outcome to those behind it.
use Rattle.std.proofs.Common.{ℕ, suc, ◌≡◌, ◌+◌, ◌*◌, ◌-◌, ◌<◌, arith, sym, ◌∙◌, List, [], ◌∷◌, drop, add-one}
use native.Mathlib.Nat.{mul-suc}
use Rattle.ranges.specs.Range.{range}
use Rattle.outcomes.specs.Answered.{nothing}
use Rattle.outcomes.specs.Outcome.{accepted}
use Rattle.outcomes.proofs.Answered.{handed_on}
use Rattle.nak.proofs.Requests.{passed_one, refused_one}
use Rattle.nak_parsing.specs.Parser.{field_at, requests_in}
use Rattle.nak_parsing.proofs.FirstRequest.{first_request}
use Rattle.nak_parser.proofs.inner.check_packet.Goals as goal

-- the request at place i, and those behind it
turn : (p : List ℕ) (from f count i : ℕ) {s e : ℕ} → i < count → s ≡ field_at p (from + 2 * f * i) f → e ≡ field_at p (from + 2 * f * i + f) f
    → requests_in f (count - i) (drop (from + 2 * f * i) p) ≡ range s e ∷ requests_in f (count - (i + 1)) (drop (from + 2 * f * (i + 1)) p)
turn p from f count i h a b =
    let m : count - i ≡ suc (count - (i + 1)) = omega arith in
    let n : from + 2 * f * (i + 1) ≡ from + 2 * f * i + 2 * f = rw (add-one, mul-suc) (omega arith) in
    rw (m, n) (first_request p (from + 2 * f * i) f (count - (i + 1)) a b)

pub loop-i-preserved : goal.loop-i-preserved
loop-i-preserved c =
    let l = c.loop-i in
    let a = c.args in
    let t = turn a.packet.now a.from a.f a.count l.i (omega arith) c.get.ensures c.get-in-loop-i.ensures in
    sym (passed_one l.none c.in_ok-none.none (accepted []) t c.in_ok-none.ensures) ∙ l.invariant

pub returns-in_err-none : goal.returns-in_err-none
returns-in_err-none c =
    let l = c.loop-i in
    let a = c.args in
    let r = c.in_err-none in
    let t = turn a.packet.now a.from a.f a.count l.i (omega arith) c.get.ensures c.get-in-loop-i.ensures in
    handed_on nothing c.from_residual.result r.field-0.0 c.from_residual.ensures.1
    ∙ sym (refused_one l.none r.field-0.0 (accepted []) t r.ensures) ∙ l.invariant
