-- Octets in two parts; and octets that two more follow: the CRC of them all is 0 exactly if the two are the CRC of the others, its
-- high octet first.
use mathlib.Core.Path.{◌≡◌, refl, sym, ap, ap₂, ◌∙◌}
use mathlib.Core.List.{List, [], ◌∷◌, ◌++◌, append_assoc}
use Prim.Native.Nat.{ℕ, ◌+◌, ◌*◌, ◌/◌, ◌%◌, ◌^◌, ◌<◌}
use native.Mathlib.Nat.{mod-lt}
use native.Mathlib.Omega.{arith}
use Rattle.crc.specs.Crc.{preset, bits_of, message, divided, crc_of, trailer}
use Rattle.crc.proofs.Binary.{binary_message}
use Rattle.crc.proofs.Injective.{divided_injective}
use Rattle.crc.proofs.Quick.{cancels, first-half}
use Rattle.crc.proofs.Linear.{divided_lt}
use Rattle.crc.proofs.Turns.{divided-append}

message-append : (xs ys : List ℕ) → message (xs ++ ys) ≡ message xs ++ message ys
message-append [] ys = refl
message-append (x ∷ xs) ys = ap (λ (m : List ℕ). bits_of x ++ m) (message-append xs ys) ∙ sym (append_assoc (bits_of x) (message xs) (message ys))

pub in_parts : (r : ℕ) (xs ys : List ℕ) → divided r (message (xs ++ ys)) ≡ divided (divided r (message xs)) (message ys)
in_parts r xs ys = ap (divided r) (message-append xs ys) ∙ divided-append r (message xs) (message ys)

-- a CRC has 16 bits
pub crc_lt : (os : List ℕ) → crc_of os < 2 ^ 16
crc_lt os = divided_lt (message os) preset (omega arith)

-- a remainder's own two octets take it to 0
pub own-octets : (r : ℕ) → r < 2 ^ 16 → divided r (message (trailer r)) ≡ 0
own-octets r hr =
    divided-append r (bits_of (r / 256)) (bits_of (r % 256))
    ∙ ap (λ (x : ℕ). divided x (bits_of (r % 256))) (first-half r hr)
    ∙ cancels (r % 256) (mod-lt r (omega arith))

pub checked : (os : List ℕ) → crc_of (os ++ trailer (crc_of os)) ≡ 0
checked os = in_parts preset os (trailer (crc_of os)) ∙ own-octets (crc_of os) (crc_lt os)

-- and no other two octets do
pub checked-only : (os : List ℕ) (a b : ℕ) → a < 256 → b < 256 → crc_of (os ++ (a ∷ b ∷ [])) ≡ 0 → a ∷ b ∷ [] ≡ trailer (crc_of os)
checked-only os a b ha hb z =
    let r = crc_of os in
    let y = a * 256 + b in
    let hy : y < 2 ^ 16 = omega arith in
    let ya : y / 256 ≡ a = omega arith in
    let yb : y % 256 ≡ b = omega arith in
    let own : trailer y ≡ a ∷ b ∷ [] = ap₂ (λ (p q : ℕ). p ∷ q ∷ []) ya yb in
    let sent : divided r (message (a ∷ b ∷ [])) ≡ 0 = sym (in_parts preset os (a ∷ b ∷ [])) ∙ z in
    let same : divided y (message (a ∷ b ∷ [])) ≡ 0 = ap (λ (os : List ℕ). divided y (message os)) (sym own) ∙ own-octets y hy in
    let e : r ≡ y = divided_injective (message (a ∷ b ∷ [])) r y (binary_message (a ∷ b ∷ [])) (crc_lt os) hy (sent ∙ sym same) in
    sym (ap trailer e ∙ own)
