-- Parts written side by side make the PDU.
use mathlib.Core.Path.{◌≡◌, refl, sym, ap, ◌∙◌}
use mathlib.Core.List.{List, ◌++◌, append_assoc}
use Prim.Native.Nat.{ℕ, ◌+◌, ◌*◌, ◌-◌, ◌≤◌}
use native.Mathlib.Omega.{arith}
use lib.ListN.{length, take, drop, length-append}
use lib.Seq.{take_at, drop_at, length-take-le}
use Rattle.octets.specs.Octets.{with_octets}
use Rattle.octets.proofs.Over.{over_then}
use Rattle.nak.specs.Pdu.{Nak, header_octets, identity_octets, data_field, trailer_length, front, trailer, pdu}
use Rattle.nak.proofs.Parts.{length-header, length-identity, pdu_parts}

pub front_puts :
    (xs : List ℕ) (at : ℕ) (n : Nak) {len place : ℕ} {ys zs ws : List ℕ}
    → len ≡ length (data_field n) + trailer_length n.form
    → place ≡ at + 4 + 2 * n.identity.entity_length + n.identity.number_length
    → ys ≡ with_octets xs at (header_octets n.form n.identity.entity_length n.identity.number_length len)
    → zs ≡ with_octets ys (at + 4) (identity_octets n.identity)
    → ws ≡ with_octets zs place (data_field n)
    → place ≤ length xs
    → ws ≡ with_octets xs at (front n)
front_puts xs at n {len} {place} a b e f h k =
    let i = n.identity.entity_length in
    let q = n.identity.number_length in
    let hd = header_octets n.form i q len in
    let id = identity_octets n.identity in
    let lh : length hd ≡ 4 = length-header n.form i q len in
    let li = length-identity n.identity in
    let l : length (hd ++ id) ≡ 4 + (2 * i + q) = length-append hd id ∙ omega arith in
    let t = over_then xs at place (hd ++ id) (data_field n) (over_then xs at (at + 4) hd id e f (omega arith) (omega arith)) h (omega arith) (omega arith) in
    t ∙ rw (a, append_assoc (header_octets n.form i q (length (data_field n) + trailer_length n.form)))

-- the octets that were put at a place
taken_back : (xs os : List ℕ) (at : ℕ) → at + length os ≤ length xs → take (length os) (drop at (with_octets xs at os)) ≡ os
unfolding with_octets
taken_back xs os at h =
    let d = drop (at + length os) xs in
    rw (append_assoc (take at xs), drop_at (take at xs) (os ++ d) at (length-take-le at xs (omega arith)), take_at os d (length os) refl)

-- the front, and behind it the trailer of what stands there
pub pdu_puts : (xs : List ℕ) (at : ℕ) (n : Nak) {to : ℕ} {ys zs : List ℕ}
    → to ≡ at + length (front n)
    → ys ≡ with_octets xs at (front n)
    → zs ≡ with_octets ys to (trailer n.form (take (to - at) (drop at ys)))
    → at + length (front n) ≤ length xs
    → zs ≡ with_octets xs at (pdu n)
pdu_puts xs at n {to} {ys} {zs} a b c k =
    let l : to - at ≡ length (front n) = omega arith in
    let e : take (to - at) (drop at ys) ≡ front n = rw (l, b) (taken_back xs (front n) at k) in
    let d : zs ≡ with_octets ys to (trailer n.form (front n)) = rw e at c in
    over_then xs at to (front n) (trailer n.form (front n)) b d (sym a) (omega arith) ∙ ap (with_octets xs at) (sym (pdu_parts n))
