-- A step of the division loses nothing: two remainders that the same bits take to one were one before. So a difference stays.
use mathlib.Core.Path.{◌≡◌, refl, sym, ap, ◌∙◌}
use mathlib.Core.Bool.{Bool, true, false, cond}
use mathlib.Core.List.{List, [], ◌∷◌}
use Prim.Native.Nat.{ℕ, ◌*◌, ◌/◌, ◌%◌, ◌^◌, ◌<◌}
use native.Mathlib.Nat.{mod-eq_of_lt}
use native.Mathlib.Omega.{arith}
use borrow.Author.Tests.{eqb-true}
use lib.Dec.{eqb}
use lib.Bits.{bit_xor, xor_self, xor_lt, xor_mod}
use Rattle.crc.specs.Crc.{polynomial, shifted, divided}
use Rattle.crc.proofs.Xor.{xor_same}
use Rattle.crc.proofs.Binary.{Binary}
use Rattle.crc.proofs.Linear.{shifted_lt, shifted_xor}

-- a remainder never comes to 0 from another by a bit 0: the polynomial has a lowest term
not_lost : (r : ℕ) → r < 2 ^ 16 → shifted r 0 ≡ 0 → r ≡ 0
unfolding shifted
not_lost r h = go (eqb (r / 2 ^ 15) 0) refl
  where
    go : (t : Bool) → eqb (r / 2 ^ 15) 0 ≡ t → cond t (r * 2 % 2 ^ 16) (bit_xor (r * 2 % 2 ^ 16) polynomial) ≡ 0 → r ≡ 0
    go true e z =
        let l : r / 2 ^ 15 ≡ 0 = eqb-true (r / 2 ^ 15) 0 e in
        let k : r * 2 < 2 ^ 16 = omega arith in
        let m : r * 2 ≡ 0 = sym (mod-eq_of_lt k) ∙ z in
        omega arith
    go false e z =
        let u = r * 2 % 2 ^ 16 in
        let even : u % 2 ≡ 0 = omega arith in
        let odd : ◌≡◌ {A = ℕ} 1 0 = sym (ap (λ (x : ℕ). bit_xor x 1) even) ∙ sym (xor_mod u polynomial 1) ∙ ap (λ (x : ℕ). x % 2) z in
        absurd (omega arith)

pub shifted_injective : (r s b : ℕ) → r < 2 ^ 16 → s < 2 ^ 16 → b < 2 → shifted r b ≡ shifted s b → r ≡ s
shifted_injective r s b hr hs hb e =
    xor_same r s
    (not_lost (bit_xor r s) (xor_lt 16 r s hr hs)
    (ap (shifted (bit_xor r s)) (sym (xor_self b)) ∙ shifted_xor r s b b hr hs hb hb ∙ ap (λ (x : ℕ). bit_xor x (shifted s b)) e ∙ xor_self (shifted s b)))

pub divided_injective : (bs : List ℕ) (r s : ℕ) → Binary bs → r < 2 ^ 16 → s < 2 ^ 16 → divided r bs ≡ divided s bs → r ≡ s
divided_injective [] r s k hr hs e = e
divided_injective (b ∷ bs) r s k hr hs e =
    shifted_injective r s b hr hs k.0 (divided_injective bs (shifted r b) (shifted s b) k.1 (shifted_lt r b) (shifted_lt s b) e)
