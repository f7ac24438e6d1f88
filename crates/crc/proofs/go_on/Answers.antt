-- `crc::go_on`: the table's entries are the remainders of their places by one test over the table as the loop begins; and a turn is
-- the division of one octet's eight bits.
use Rattle.std.proofs.Common.{ℕ, ◌+◌, rules, arith, refl, sym, ap, ◌∙◌, get_or, drop}
use Rattle.crc.specs.Crc.{bits_of, shifted, message, divided}
use Rattle.crc.proofs.Tests.{each}
use Rattle.crc.proofs.Linear.{divided_lt}
use Rattle.crc.proofs.Quick.{quick-at}
use Rattle.crc.proofs.Turns.{between, between_within, turn, end}
use Rattle.crc.proofs.go_on.Goals as goal

-- here the test over the whole table is computed, once: it is a premise of `each`, which carries it to each entry
pub loop-octet-init : goal.loop-octet-init
unfolding shifted
loop-octet-init c = (search rules, refl, (λ k h. search (each (λ (k : ℕ). divided 0 (bits_of k)), rules)), refl)

pub loop-octet-preserved : goal.loop-octet-preserved
loop-octet-preserved c =
    let os = between c.min.result c.min-end.result c.args.octets.now in
    let r = c.loop-octet.r in
    let i = c.loop-octet.octet-index in
    let o = get_or os i 0 in
    let p = c.place.result in
    let q = quick-at r o p _ c.loop-octet.invariant.0 c.place.ensures.0 (c.loop-octet.invariant.2 p c.place.ensures.1) in (
      rw q (divided_lt (bits_of o) r c.loop-octet.invariant.0),
      refl,
      c.loop-octet.invariant.2,
      ap (λ (x : ℕ). divided x (message (drop (i + 1) os))) q ∙ turn r i os (omega arith) ∙ c.loop-octet.invariant.3,
    )

pub returns : goal.returns
returns c =
    let a = c.args in
    let l = c.loop-octet in
    let os = between c.min.result c.min-end.result a.octets.now in
    let e = between_within a.from a.to c.min.result c.min-end.result a.octets.now c.min-end.ensures c.min.ensures in
    sym (end l.r l.octet-index os (omega arith)) ∙ l.invariant.3 ∙ ap (λ xs. divided a.crc (message xs)) e
