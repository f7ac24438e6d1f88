-- Fields written side by side make the header, the identity, the data field.
use mathlib.Core.Path.{◌≡◌, refl, sym, ap, ◌∙◌}
use mathlib.Core.Bool.{true}
use mathlib.Core.List.{List, ◌++◌, append_assoc, append-nil}
use Prim.Native.Nat.{ℕ, ◌+◌, ◌*◌, ◌/◌, ◌≤◌}
use native.Mathlib.Omega.{arith}
use lib.ListN.{length, take, length-append}
use Rattle.ranges.specs.Range.{range}
use Rattle.ranges.specs.Store.{flat}
use Rattle.octets.specs.Octets.{field, fields, with_octets}
use Rattle.octets.proofs.Fields.{length-field, fields-append}
use Rattle.octets.proofs.Over.{over_then}
use Rattle.nak.specs.declared.Asked.{Asked}
use Rattle.nak.specs.declared.Form.{Form}
use Rattle.nak.specs.declared.Identity.{Identity}
use Rattle.nak.specs.Header.{octet0, octet3}
use Rattle.nak.specs.Pdu.{nak_code, header_octets, identity_octets, data_octets}
use Rattle.nak.specs.Inner.{metadata_first, requests_of}
use Rattle.nak.proofs.Parts.{flat-entries}

pub header_puts :
    (xs : List ℕ) (at : ℕ) (g : Form) (i q len : ℕ) {v w o : ℕ} {ys zs ws : List ℕ}
    → v ≡ octet0 g
    → w ≡ len
    → o ≡ octet3 i q
    → ys ≡ with_octets xs at (field 1 v)
    → zs ≡ with_octets ys (at + 1) (field 2 w)
    → ws ≡ with_octets zs (at + 3) (field 1 o)
    → at + 4 ≤ length xs
    → ws ≡ with_octets xs at (header_octets g i q len)
unfolding header_octets
header_puts xs at g i q len {v} {w} {o} a b c e f h k =
    let l : length (field 1 v ++ field 2 w) ≡ 3 = refl in
    let t = over_then xs at (at + 3) (field 1 v ++ field 2 w) (field 1 o) (over_then xs at (at + 1) (field 1 v) (field 2 w) e f refl (omega arith)) h (omega arith) (omega arith) in
    t ∙ rw (a, b, c, append_assoc (field 1 (octet0 g)))

pub identity_puts :
    (xs : List ℕ) (at : ℕ) (d : Identity) {ys zs ws : List ℕ}
    → ys ≡ with_octets xs at (field d.entity_length d.source)
    → zs ≡ with_octets ys (at + d.entity_length) (field d.number_length d.number)
    → ws ≡ with_octets zs (at + d.entity_length + d.number_length) (field d.entity_length d.destination)
    → at + (2 * d.entity_length + d.number_length) ≤ length xs
    → ws ≡ with_octets xs at (identity_octets d)
unfolding identity_octets
identity_puts xs at d e f h k =
    let i = d.entity_length in
    let q = d.number_length in
    let s = field i d.source in
    let n = field q d.number in
    let ls = length-field i d.source in
    let ln = length-field q d.number in
    let l : length (s ++ n) ≡ i + q = length-append s n ∙ omega arith in
    let t = over_then xs at (at + i + q) (s ++ n) (field i d.destination) (over_then xs at (at + i) s n e f (omega arith) (omega arith)) h (omega arith) (omega arith) in
    t ∙ rw (append_assoc s)

-- the metadata request, where it is asked for
pub asked_puts :
    (xs : List ℕ) (at f : ℕ) {ys zs : List ℕ}
    → ys ≡ with_octets xs at (field f 0)
    → zs ≡ with_octets ys (at + f) (field f 0)
    → at + f ≤ length xs
    → zs ≡ with_octets xs at (fields f (flat (metadata_first true)))
asked_puts xs at f e h k =
    let l = length-field f 0 in
    over_then xs at (at + f) (field f 0) (field f 0) e h (omega arith) k ∙ ap (λ (os : List ℕ). with_octets xs at (field f 0 ++ os)) (sym (append-nil (field f 0)))

pub data_puts :
    (xs : List ℕ) (at f : ℕ) (a : Asked) {place : ℕ} {v w y z u : List ℕ}
    → v ≡ with_octets xs at (field 1 nak_code)
    → w ≡ with_octets v (at + 1) (field f a.start)
    → y ≡ with_octets w (at + 1 + f) (field f a.end)
    → z ≡ with_octets y (at + 1 + f + f) (fields f (flat (metadata_first a.metadata)))
    → place ≡ at + 1 + f + f + length (fields f (flat (metadata_first a.metadata)))
    → u ≡ with_octets z place (fields f (take (2 * (length a.requests.now / 2)) a.requests.now))
    → at + (1 + 2 * f + length (fields f (flat (metadata_first a.metadata)))) ≤ length xs
    → u ≡ with_octets xs at (data_octets f (range a.start a.end) (requests_of a))
unfolding data_octets
data_puts xs at f q {place} h1 h2 h3 h4 h5 h6 r =
    let s = q.start in
    let e = q.end in
    let m = q.metadata in
    let list = q.requests.now in
    let count = length list / 2 in
    let n = take (2 * count) list in
    let c : List ℕ = field 1 nak_code in
    let a = fields f (flat (metadata_first m)) in
    let ls = length-field f s in
    let le = length-field f e in
    let l1 : length (c ++ field f s) ≡ 1 + f = length-append c (field f s) ∙ omega arith in
    let l2 : length (c ++ field f s ++ field f e) ≡ 1 + f + f = length-append (c ++ field f s) (field f e) ∙ omega arith in
    let l3 : length (c ++ field f s ++ field f e ++ a) ≡ 1 + f + f + length a = length-append (c ++ field f s ++ field f e) a ∙ omega arith in
    let t1 = over_then xs at (at + 1) c (field f s) h1 h2 refl (omega arith) in
    let t2 = over_then xs at (at + 1 + f) (c ++ field f s) (field f e) t1 h3 (omega arith) (omega arith) in
    let t3 = over_then xs at (at + 1 + f + f) (c ++ field f s ++ field f e) a t2 h4 (omega arith) (omega arith) in
    let t4 = over_then xs at place (c ++ field f s ++ field f e ++ a) (fields f n) t3 h6 (omega arith) (omega arith) in
    t4 ∙ ap (with_octets xs at) (rw (flat-entries m list 0 count (omega arith), fields-append f (flat (metadata_first m))) (simp append_assoc))
