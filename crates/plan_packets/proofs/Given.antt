-- The requests ahead at the start of a packet are those that reading gives, whether it accepts the packet or not: of a refused one there are none.
use mathlib.Core.Path.{◌≡◌, refl, sym, ap, ◌∙◌}
use mathlib.Core.Bool.{Bool, true, false}
use mathlib.Core.List.{List}
use Prim.Native.Nat.{ℕ, ◌*◌, ◌-◌, ◌/◌, ◌≤◌}
use native.Mathlib.Nat.{mul-div-le, mul-le-mul_right}
use native.Mathlib.Omega.{arith}
use lib.Dec.{eqb}
use lib.ListN.{length, take, drop, length-drop, take-append-drop}
use lib.Seq.{length-take-le}
use borrow.Author.Tests.{eqb-true, eqb-false}
use Rattle.octets.specs.Flag.{field_length}
use Rattle.octets.specs.declared.LargeFileFlag.{LargeFileFlag}
use Rattle.octets.specs.declared.LargeFileFlag.TheVariants.{Normal, Large}
use Rattle.nak.specs.declared.Edition.{Edition}
use Rattle.nak_parsing.specs.declared.Parsed.{Parsed}
use Rattle.nak_parsing.specs.Parser.{requests_in, packet_requests, field_length_in, read_outcome, parsed_of, accepted_parsed}
use Rattle.nak_parsing.specs.Step.{requests_given}
use Rattle.nak_parsing.proofs.Reading.{read_of}
use Rattle.nak_parsing.proofs.ParsedOf.{parsed-accepted, parsed-refused, part-of}
use Rattle.planning.specs.Check.{room_for}
use Rattle.plan_packets.proofs.Ahead.{length-requests, requests-front}

-- a number has four octets or eight
pub four : (g : LargeFileFlag) → 4 ≤ field_length g
four Normal = omega arith
four Large = omega arith

pub eight : (g : LargeFileFlag) → field_length g ≤ 8
eight Normal = omega arith
eight Large = omega arith

-- what reading hands back of the packet p lies in it
pub ordered : (v : Edition) (p : List ℕ) {q : Parsed} → q ≡ parsed_of v p → q.from ≤ q.to
ordered v p e = rw e (part-of v p).ordered

pub inside : (v : Edition) (p : List ℕ) {q : Parsed} → q ≡ parsed_of v p → q.to ≤ length p
inside v p e = rw e (part-of v p).inside

-- the requests from its start on, and those that reading gives
lie : (v : Edition) (p : List ℕ) (t : Bool) → eqb (read_outcome v p).number 0 ≡ t
    → let q = parsed_of v p in let f = field_length q.form.flag in requests_in f ((q.to - q.from) / (2 * f)) (drop q.from p) ≡ requests_given v p
unfolding accepted_parsed field_length_in packet_requests
lie v p true e = let a = parsed-accepted v p (read_of v p (eqb-true (read_outcome v p).number 0 e)).outcome in rw (a, e)
lie v p false e = let a = parsed-refused v p (eqb-false (read_outcome v p).number 0 e) in rw (a, e)

module _ (v : Edition) (p : List ℕ) where
  abbrev q : Parsed
  q = parsed_of v p

  abbrev f : ℕ
  f = field_length (parsed_of v p).form.flag

  abbrev os : List ℕ
  os = take ((parsed_of v p).to - (parsed_of v p).from) (drop (parsed_of v p).from p)

  many : length os ≡ (parsed_of v p).to - (parsed_of v p).from
  many =
      let d = length-drop (parsed_of v p).from p in
      let w = part-of v p in
      length-take-le ((parsed_of v p).to - (parsed_of v p).from) (drop (parsed_of v p).from p) (omega (arith, w.inside, w.ordered))

  pub given : requests_in f (length os / (2 * f)) os ≡ requests_given v p
  given =
      let n : ℕ = (parsed_of v p).to - (parsed_of v p).from in
      let m = mul-div-le n (2 * f) in
      rw many
      (sym (requests-front f (n / (2 * f)) os (drop n (drop (parsed_of v p).from p)) (rw many m))
      ∙ ap (requests_in f (n / (2 * f))) (take-append-drop n (drop (parsed_of v p).from p))
      ∙ lie v p (eqb (read_outcome v p).number 0) refl)

  -- a request has at least eight octets
  pub few : length (requests_given v p) ≤ room_for p
  few =
      let n = length-requests f (length os / (2 * f)) os in
      let g = ap length given in
      let d = mul-div-le (length os) (2 * f) in
      let m = mul-le-mul_right {m = 8} {n = 2 * f} (length os / (2 * f)) (let k = four (parsed_of v p).form.flag in omega arith) in
      let w = part-of v p in
      omega (arith, m, d, n, g, many, w.inside)
