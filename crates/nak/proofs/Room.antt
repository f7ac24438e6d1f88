-- How many requests a PDU of at most P octets has room for.
use mathlib.Core.Path.{◌≡◌, refl}
use mathlib.Core.Bool.{true, false}
use Prim.Native.Nat.{ℕ, ◌+◌, ◌*◌, ◌-◌, ◌≤◌, ◌<◌}
use native.Mathlib.Nat.{mul_comm, one-mul, le-div_iff_mul-le, div-le_self, div-mul-le_self, mul-le-mul_left}
use native.Mathlib.Numerals.{unary_clauses}
use native.Mathlib.Omega.{arith}
use lib.ListN.{length}
use Rattle.octets.specs.declared.LargeFileFlag.{LargeFileFlag}
use Rattle.octets.specs.declared.LargeFileFlag.TheVariants.{Normal, Large}
use Rattle.octets.specs.Flag.{field_length}
use Rattle.nak.specs.declared.Edition.{Edition}
use Rattle.nak.specs.declared.Form.{Form}
use Rattle.nak.specs.declared.Identity.{Identity}
use Rattle.nak.specs.Pdu.{Nak, pdu, header_length, trailer_length, pdu_length, per_pdu}
use Rattle.nak.proofs.Parts.{length_of_pdu}

-- F is 4 to 8
pub field-low : (g : LargeFileFlag) → 4 ≤ field_length g
field-low Normal = omega arith
field-low Large = omega arith

pub field-high : (g : LargeFileFlag) → field_length g ≤ 8
field-high Normal = omega arith
field-high Large = omega arith

module _ (g : Form) (d : Identity) (p : ℕ) where
  abbrev h : ℕ
  h = header_length d.entity_length d.number_length

  abbrev f : ℕ
  f = field_length g.flag

  -- room for one request, in F
  pub one-room : pdu_length g d 2 ≤ p → h + 1 + 4 * f + trailer_length g ≤ p
  one-room k = let c = mul_comm f 4 in omega arith

  -- room for one request is room for k ≥ 1
  pub per_low : pdu_length g d 2 ≤ p → 1 ≤ per_pdu g d p
  per_low k =
      let l = field-low g.flag in
      let r = one-room k in
      let z : 0 < 2 * f = omega arith in
      let o = one-mul (2 * f) in
      (le-div_iff_mul-le z).1 (omega arith)

  pub per_high : per_pdu g d p ≤ p
  per_high = let q = div-le_self (p - trailer_length g - h - 1 - 2 * f) (2 * f) in omega arith

-- with a trailer k is that of a PDU two octets shorter
pub k_loses_two : (e : Edition) (f : LargeFileFlag) (d : Identity) (p : ℕ)
    → per_pdu (record { edition = e; flag = f; crc = true }) d p ≡ per_pdu (record { edition = e; flag = f; crc = false }) d (p - 2)
k_loses_two e g d p = simp unary_clauses refl

-- a PDU with at most k requests has at most P octets
pub per_short : (n : Nak) (p : ℕ) → pdu_length n.form n.identity 2 ≤ p → length n.requests ≤ per_pdu n.form n.identity p → length (pdu n) ≤ p
per_short n p k u =
    let g : ℕ = field_length n.form.flag in
    let m : ℕ = length n.requests in
    let e : ℕ = per_pdu n.form n.identity p in
    let hd : ℕ = h n.form n.identity p in
    let r = one-room n.form n.identity p k in
    let l = length_of_pdu n in
    let v : 2 * g * m ≤ 2 * g * e = mul-le-mul_left (2 * g) u in
    let t : ℕ = trailer_length n.form in
    let w : e * (2 * g) ≤ p - t - hd - 1 - 2 * g = div-mul-le_self (p - t - hd - 1 - 2 * g) (2 * g) in
    let c = mul_comm e (2 * g) in
    omega arith
