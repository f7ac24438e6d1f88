-- How long the PDUs of a sequence are: each at most P octets.
use mathlib.Core.Path.{◌≡◌}
use mathlib.Core.Bool.{false}
use Prim.Native.Nat.{ℕ, ◌≤◌}
use native.Mathlib.Omega.{arith}
use lib.Dec.{ltb}
use borrow.Author.Tests.{ltb-false}
use lib.ListN.{length, drop, length-take}
use Rattle.ranges.proofs.Test.{or_false}
use Rattle.nak.specs.Pdu.{pdu, pdu_length, per_pdu, is_too_small}
use Rattle.nak.specs.Writer.{largest_pdu}
use Rattle.nak.proofs.Room.{per_low, per_short}
use Rattle.sequence.specs.Entries.{Asking, nak_at}
use Rattle.sequence.specs.Sequence.{is_bad_size}
use Rattle.sequence.specs.declared.Order.{Order}

-- the PDU from entry f on has at most k requests
pub pdu-short : (a : Asking) (p f : ℕ) → a.each ≡ per_pdu a.form a.identity p → pdu_length a.form a.identity 2 ≤ p → length (pdu (nak_at a f)) ≤ p
pdu-short a p f e h =
    let t = length-take a.each (drop f a.entries) in
    per_short (nak_at a f) p h (omega arith)

-- an order that check 14 passes has no larger PDU than may be, and room for a request in each PDU
pub small_size : (o : Order) → is_bad_size o ≡ false → o.largest ≤ largest_pdu
unfolding is_bad_size
small_size o e = ltb-false largest_pdu o.largest (or_false _ _ e).0

pub some-each : (o : Order) → is_bad_size o ≡ false → pdu_length o.form o.identity 2 ≤ o.largest
unfolding is_bad_size
some-each o e =
    let w = or_false (ltb largest_pdu o.largest) (is_too_small o.form o.identity o.largest) e in
    ltb-false o.largest (pdu_length o.form o.identity 2) w.1

pub each-low : (o : Order) → is_bad_size o ≡ false → 1 ≤ per_pdu o.form o.identity o.largest
each-low o e = per_low o.form o.identity o.largest (some-each o e)
