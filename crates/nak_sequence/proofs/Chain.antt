-- PDUs one after the other: one more PDU, the octets of some of them, and the loop that writes them.
use mathlib.Core.Path.{◌≡◌, refl, sym, ap, ◌∙◌}
use mathlib.Core.List.{List, [], ◌∷◌, ◌++◌, append-nil}
use Prim.Native.Nat.{ℕ, zero, suc, ◌+◌, ◌*◌, ◌-◌, ◌≤◌, ◌<◌}
use native.Mathlib.Nat.{zero-add, zero-mul, suc-mul, le-div_iff_mul-le}
use native.Mathlib.Numerals.{add-one}
use native.Mathlib.Omega.{arith}
use lib.ListN.{length, drop, length-append}
use Rattle.octets.specs.Octets.{with_octets}
use Rattle.octets.proofs.Over.{over_nothing, over-join, length_over}
use Rattle.nak.specs.Pdu.{Nak, pdu}
use Rattle.sequence.specs.Entries.{Asking, rounded_up, nak_at, naks, octets_of}
use Rattle.sequence.proofs.Together.{octets-append, naks-append}

naks_snoc : (a : Asking) (f n : ℕ) → naks a f (suc n) ≡ naks a f n ++ (nak_at a (f + n * a.each) ∷ [])
naks_snoc a f n = ap (naks a f) (sym (add-one n)) ∙ naks-append a f n 1

-- the octets of one PDU more
pub octets_snoc : (a : Asking) (f n : ℕ) → octets_of (naks a f (suc n)) ≡ octets_of (naks a f n) ++ pdu (nak_at a (f + n * a.each))
octets_snoc a f n =
    let x : Nak = nak_at a (f + n * a.each) in
    ap octets_of (naks_snoc a f n) ∙ octets-append (naks a f n) (x ∷ []) ∙ ap (λ (l : List ℕ). octets_of (naks a f n) ++ l) (append-nil (pdu x))

-- fewer PDUs, no more octets
pub octets-less : (a : Asking) (f n m : ℕ) → n ≤ m → length (octets_of (naks a f n)) ≤ length (octets_of (naks a f m))
octets-less a f zero m h = omega arith
octets-less a f (suc n) zero h = absurd (omega arith)
octets-less a f (suc n) (suc m) h =
    let i = octets-less a (f + a.each) n m (omega arith) in
    let x = length-append (pdu (nak_at a f)) (octets_of (naks a (f + a.each) n)) in
    let y = length-append (pdu (nak_at a f)) (octets_of (naks a (f + a.each) m)) in
    omega arith

-- PDUs of at most p octets, n of them
pub octets-short : (a : Asking) (p : ℕ) → ((f : ℕ) → length (pdu (nak_at a f)) ≤ p) → (f n : ℕ) → length (octets_of (naks a f n)) ≤ n * p
octets-short a p s f zero = omega arith
octets-short a p s f (suc n) =
    let i = octets-short a p s (f + a.each) n in
    let q = s f in
    let l = length-append (pdu (nak_at a f)) (octets_of (naks a (f + a.each) n)) in
    let m = suc-mul n p in
    omega arith

-- the loop of `write_pdus`: n PDUs stand in the buffer, and the next begins at entry f and place `at`
pub record Done (a : Asking) (from pdus : ℕ) (buf₀ buf : List ℕ) (at f n : ℕ) : Type 0 where
  pub few : n ≤ pdus
  pub entry : f ≡ from + n * a.each
  pub place : at ≡ length (octets_of (naks a from n))
  pub size : length buf ≡ length buf₀
  pub octets : buf ≡ with_octets buf₀ 0 (octets_of (naks a from n))

pub done-begin : (a : Asking) (from pdus : ℕ) (buf : List ℕ) → Done a from pdus buf buf 0 from 0
done-begin a from pdus buf =
    let z = zero-mul a.each in
    record { few = omega arith; entry = omega arith; place = refl; size = refl; octets = sym (over_nothing buf 0) }

module _ (a : Asking) (from pdus : ℕ) (buf₀ buf : List ℕ) (at f n : ℕ) (d : Done a from pdus buf₀ buf at f n) (h : n < pdus) (r : length (octets_of (naks a from pdus)) ≤ length buf₀) where
  next : octets_of (naks a from (suc n)) ≡ octets_of (naks a from n) ++ pdu (nak_at a f)
  next = octets_snoc a from n ∙ ap (λ (g : ℕ). octets_of (naks a from n) ++ pdu (nak_at a g)) (sym d.entry)

  joined : length (octets_of (naks a from (suc n))) ≡ at + length (pdu (nak_at a f))
  joined = ap length next ∙ length-append (octets_of (naks a from n)) (pdu (nak_at a f)) ∙ ap (λ (m : ℕ). m + length (pdu (nak_at a f))) (sym d.place)

  pub done-room : at + length (pdu (nak_at a f)) ≤ length buf
  done-room = omega (arith, joined, d.size, octets-less a from (suc n) pdus h)

  pub done-step : (at' : ℕ) (buf' : List ℕ) → at' ≡ at + length (pdu (nak_at a f)) → buf' ≡ with_octets buf at (pdu (nak_at a f)) → Done a from pdus buf₀ buf' at' (f + a.each) (n + 1)
  done-step at' buf' e g =
      let w : with_octets buf at (pdu (nak_at a f)) ≡ with_octets buf₀ 0 (octets_of (naks a from (suc n))) =
      ap (λ (l : List ℕ). with_octets l at (pdu (nak_at a f))) d.octets
      ∙ over-join buf₀ 0 at (octets_of (naks a from n)) (pdu (nak_at a f)) (omega (arith, d.place)) (omega (arith, done-room, d.size))
      ∙ ap (with_octets buf₀ 0) (sym next) in
      record {
        few = omega arith;
        entry = let s = suc-mul n a.each in rw add-one (omega (arith, d.entry));
        place = rw add-one (e ∙ sym joined);
        size = ap length g ∙ length_over buf at (pdu (nak_at a f)) done-room ∙ d.size;
        octets = rw add-one (g ∙ w);
      }

-- octets written at the front
pub at_front : (xs ys : List ℕ) → with_octets xs 0 ys ≡ ys ++ drop (length ys) xs
unfolding with_octets
at_front xs ys = rw (zero-add (length ys))
