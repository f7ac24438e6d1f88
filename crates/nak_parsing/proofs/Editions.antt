-- A packet of one edition is never accepted under the other: what one accepts, the other refuses with 15.
use mathlib.Core.Path.{◌≡◌, refl}
use mathlib.Core.Bool.{false}
use mathlib.Core.List.{List}
use Prim.Native.Nat.{ℕ}
use native.Mathlib.Omega.{arith}
use lib.Dec.{eqb}
use borrow.Author.Tests.{le-ltb, ne_eqb}
use Rattle.outcomes.specs.Refusal.{refusing}
use Rattle.outcomes.specs.declared.Refusal.TheVariants as refusal
use Rattle.nak.specs.declared.Edition.{Edition}
use Rattle.nak.specs.declared.Edition.TheVariants.{Older, Newer}
use Rattle.nak.specs.Header.{fixed_bits0, fixed0, wrong_fixed}
use Rattle.nak_parsing.specs.Parser.{octet_at, read_outcome}
use Rattle.nak_parsing.proofs.Reading.{read_of}
use Rattle.nak_parsing.proofs.OctetsBack.{bits_right}

-- no octet 0 has the fixed bits of both
one_version : (v w : Edition) (o0 : ℕ) → fixed_bits0 v o0 ≡ fixed0 v → fixed_bits0 w o0 ≡ fixed0 w → v ≡ w
one_version Older Older o0 a b = refl
one_version Older Newer o0 a b = absurd (omega (arith, a, b))
one_version Newer Older o0 a b = absurd (omega (arith, a, b))
one_version Newer Newer o0 a b = refl

-- two editions that accept one packet are the same
pub one-edition : (v w : Edition) (p : List ℕ) → (read_outcome v p).number ≡ 0 → (read_outcome w p).number ≡ 0 → v ≡ w
one-edition v w p a b =
    one_version v w (octet_at p 0) (bits_right v (octet_at p 0) (octet_at p 3) (read_of v p a).shape.fixed) (bits_right w (octet_at p 0) (octet_at p 3) (read_of w p b).shape.fixed)

other_version : (v w : Edition) (o0 : ℕ) → (v ≡ w → ⊥) → fixed_bits0 v o0 ≡ fixed0 v → eqb (fixed_bits0 w o0) (fixed0 w) ≡ false
other_version v w o0 n a = ne_eqb (fixed_bits0 w o0) (fixed0 w) (λ b. n (one_version v w o0 a b))

-- an accepted packet is refused with 15 under the other edition
pub other_refused : (v w : Edition) (p : List ℕ) → (v ≡ w → ⊥) → (read_outcome v p).number ≡ 0 → read_outcome w p ≡ refusing refusal.BadHeader
unfolding read_outcome wrong_fixed
other_refused v w p n a =
    let s = (read_of v p a).shape in
    rw (le-ltb _ 4 s.enough, other_version v w (octet_at p 0) n (bits_right v (octet_at p 0) (octet_at p 3) s.fixed))
