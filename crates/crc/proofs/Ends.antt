-- Octets that end in their CRC: the test says so; they are the octets whose CRC is 0; and the trailer is a field of two octets.
use mathlib.Core.Path.{◌≡◌, refl, sym, ap, ap₂, ◌∙◌}
use mathlib.Core.Bool.{Bool, true, false, ◌&&◌, cond, true≢false}
use mathlib.Core.List.{List, [], ◌∷◌, ◌++◌}
use mathlib.Core.Logic.{◌↔◌}
use Prim.Native.Nat.{ℕ, ◌+◌, ◌-◌, ◌/◌, ◌%◌, ◌^◌, ◌≤◌, ◌<◌}
use native.Mathlib.Nat.{mod-eq_of_lt}
use native.Mathlib.Omega.{arith}
use borrow.Author.Tests.{eq-eqb, ne_eqb, eqb-true, le-leb, leb-true}
use lib.Dec.{leb, eqb}
use lib.ListN.{length, take, drop, length-append, length-drop, take-append-drop}
use lib.Seq.{take_at, drop_at}
use Rattle.octets.specs.Octets.{field, number, AllOctets}
use Rattle.octets.proofs.Fields.{got_put, put_got, octets-drop}
use Rattle.crc.specs.Crc.{shifted, crc_of, trailer}
use Rattle.crc.specs.Damage.{EndsInCrc, ends_in_crc}
use Rattle.crc.proofs.Tests.{below}
use Rattle.crc.proofs.Trailer.{crc_lt, checked, checked-only}

-- the trailer is the field of two octets that holds the CRC
pub trailer-field : (r : ℕ) → r < 2 ^ 16 → field 2 r ≡ trailer r
trailer-field r h = let k : r / 256 < 256 = omega arith in ap (λ (x : ℕ). x ∷ r % 256 ∷ []) (mod-eq_of_lt k)

pub trailer-number : (r : ℕ) → r < 2 ^ 16 → number (trailer r) ≡ r
trailer-number r h = ap number (sym (trailer-field r h)) ∙ got_put 2 r (omega arith)

-- the octets without their last two, and the last two
abbrev front : List ℕ → List ℕ
front p = take (length p - 2) p

abbrev last_two : List ℕ → List ℕ
last_two p = drop (length p - 2) p

length_last : (p : List ℕ) → 2 ≤ length p → length (last_two p) ≡ 2
length_last p h = length-drop (length p - 2) p ∙ omega arith

-- what ends in its CRC, taken apart
apart : (p : List ℕ) → EndsInCrc p → (2 ≤ length p) × (last_two p ≡ trailer (crc_of (front p)))
apart p (os, e) =
    let t = trailer (crc_of os) in
    let l : length p ≡ length os + 2 = ap length e ∙ length-append os t in
    let n : length os ≡ length p - 2 = omega arith in
    let f : front p ≡ os = ap (take (length p - 2)) e ∙ take_at os t (length p - 2) n in
    (omega arith, ap (drop (length p - 2)) e ∙ drop_at os t (length p - 2) n ∙ ap (λ (os : List ℕ). trailer (crc_of os)) (sym f))

-- and put together
together : (p : List ℕ) → last_two p ≡ trailer (crc_of (front p)) → EndsInCrc p
together p e = (front p, sym (take-append-drop (length p - 2) p) ∙ ap (λ (os : List ℕ). front p ++ os) e)

both_hold : (s t : Bool) → (s && t) ≡ true → (s ≡ true) × (t ≡ true)
both_hold true t e = (refl, e)
both_hold false t e = absurd (true≢false (sym e))

-- the test says yes to what ends in its CRC
pub ends_tested : (p : List ℕ) → EndsInCrc p → ends_in_crc p ≡ true
ends_tested p ends =
    let t = apart p ends in
    let n : number (last_two p) ≡ crc_of (front p) = ap number t.1 ∙ trailer-number (crc_of (front p)) (crc_lt (front p)) in
    rw (le-leb 2 (length p) t.0, eq-eqb (number (last_two p)) (crc_of (front p)) n)

-- and to nothing else
pub test_exactly : (p : List ℕ) → AllOctets p → (ends_in_crc p ≡ true) ↔ EndsInCrc p
test_exactly p a = (to, ends_tested p)
  where
    to : ends_in_crc p ≡ true → EndsInCrc p
    to e =
        let b = both_hold (leb 2 (length p)) (eqb (number (last_two p)) (crc_of (front p))) e in
        let l = length_last p (leb-true 2 (length p) b.0) in
        let n : number (last_two p) ≡ crc_of (front p) = eqb-true (number (last_two p)) (crc_of (front p)) b.1 in
        together p (sym (put_got (last_two p) (octets-drop (length p - 2) p a)) ∙ ap₂ field l n ∙ trailer-field (crc_of (front p)) (crc_lt (front p)))

abbrev one_if : Bool → ℕ
one_if t = cond t 1 0

-- fewer than two octets do not have the CRC 0: of none it is the preset, and the single octets are tried
one_octet_not : (o : ℕ) → o < 256 → one_if (eqb (crc_of (o ∷ [])) 0) ≡ 0
unfolding shifted
one_octet_not o h = below (λ (o : ℕ). one_if (eqb (crc_of (o ∷ [])) 0)) (λ o. 0) 256 tt o h

at_least_two : (p : List ℕ) → AllOctets p → crc_of p ≡ 0 → 2 ≤ length p
at_least_two [] a z = absurd (omega (arith, z))
at_least_two (o ∷ []) (h, a) z =
    let e : ◌≡◌ {A = ℕ} 1 0 = sym (ap one_if (eq-eqb (crc_of (o ∷ [])) 0 z)) ∙ one_octet_not o h in
    absurd (omega arith)
at_least_two (o ∷ q ∷ p) a z = omega arith

-- what ends in its CRC has the CRC 0
pub ends_in_zero : (p : List ℕ) → EndsInCrc p → crc_of p ≡ 0
ends_in_zero p (os, e) = ap crc_of e ∙ checked os

-- so octets end in their CRC exactly if the CRC of them all is 0
pub zero_exactly : (p : List ℕ) → AllOctets p → (crc_of p ≡ 0) ↔ EndsInCrc p
zero_exactly p a = (to, ends_in_zero p)
  where
    two : (os d : List ℕ) → length d ≡ 2 → AllOctets d → crc_of (os ++ d) ≡ 0 → d ≡ trailer (crc_of os)
    two os [] l o z = absurd (omega arith)
    two os (x ∷ []) l o z = absurd (omega arith)
    two os (x ∷ y ∷ []) l (hx, (hy, o)) z = checked-only os x y hx hy z
    two os (x ∷ y ∷ w ∷ d) l o z = absurd (omega arith)

    to : crc_of p ≡ 0 → EndsInCrc p
    to z =
        together p
        (two (front p) (last_two p) (length_last p (at_least_two p a z)) (octets-drop (length p - 2) p a) (ap crc_of (take-append-drop (length p - 2) p) ∙ z))

-- and the test is that of 0
pub by_zero : (p : List ℕ) → AllOctets p → eqb (crc_of p) 0 ≡ ends_in_crc p
by_zero p a = go (ends_in_crc p) refl
  where
    go : (t : Bool) → ends_in_crc p ≡ t → eqb (crc_of p) 0 ≡ t
    go true e = eq-eqb (crc_of p) 0 ((zero_exactly p a).1 ((test_exactly p a).0 e))
    go false e = ne_eqb (crc_of p) 0 (λ z. true≢false (sym ((test_exactly p a).1 ((zero_exactly p a).0 z)) ∙ e))
