-- The packets in some octets: as many as there are lengths, the one of PDU k at its number, and a pass over them.
use mathlib.Core.Path.{◌≡◌, refl, sym, ap, ap₂, ◌∙◌}
use mathlib.Core.Bool.{Bool, true, false}
use mathlib.Core.List.{List, [], ◌∷◌}
use Prim.Native.Nat.{ℕ, zero, suc, ◌+◌, ◌-◌, ◌≤◌, ◌<◌}
use mathlib.Core.Logic.{⊎_elim}
use native.Mathlib.Nat.{eq-or-lt_of_le}
use native.Mathlib.Numerals.{add-one}
use native.Mathlib.Omega.{arith}
use denote.Param.Members.{Mut, Called}
use denote.Ref.{Bor}
use lib.ListN.{length, get_or, take, drop, length-drop, length-take}
use lib.Seq.{drop-drop, drop-cons}
use Rattle.std.specs.Prelude.{Option, MatchOption, None, Some}
use Rattle.std.specs.Iterator.{YieldsFirstRef, YieldsThen}
use Rattle.std.specs.List.{FoldsTo}
use Rattle.std.proofs.lemmas.Iterator.{IsFirst-from_position}
use Rattle.std.proofs.lemmas.Iterator.Consumers.{YieldsList-from_first}
use Rattle.planning.specs.Plan.{start_of, packet_in}
use Rattle.planning.proofs.Firsts.{first-none, first_early}
use Rattle.plan_passes.specs.Packets.{packets_in}
use Rattle.plan_passes.specs.Pdus.{IsFirst}
use Rattle.plan_passes.specs.declared.inner.pdus.Packets.{Packets}
use Rattle.plan_passes.proofs.Sums.{start-cons}

pub length-packets : (ls os : List ℕ) → length (packets_in ls os) ≡ length ls
length-packets [] os = refl
length-packets (n ∷ ls) os = ap suc (length-packets ls (drop n os))

pub packet-at : (ls os : List ℕ) (k : ℕ) (d : List ℕ) → k < length ls → get_or (packets_in ls os) k d ≡ packet_in ls os k
packet-at [] os k d h = absurd (omega arith)
packet-at (n ∷ ls) os zero d h = let e : 0 + n - 0 ≡ n = omega arith in rw e refl
packet-at (n ∷ ls) os (suc k) d h =
    let s = start-cons n ls k in
    let g : ℕ = get_or ls k 0 in
    let w : start_of (n ∷ ls) (suc k) + g - start_of (n ∷ ls) (suc k) ≡ start_of ls k + g - start_of ls k = omega arith in
    packet-at ls (drop n os) k d (omega arith)
    ∙ ap₂ (λ (m : ℕ) (l : List ℕ). take m l) (sym w) (drop-drop (start_of ls k) n os ∙ ap (λ (m : ℕ). drop m os) (sym s))

start-within : (ls : List ℕ) (k n : ℕ) → k ≤ n → start_of ls k ≤ start_of ls n
start-within ls k zero h = let e : k ≡ 0 = omega arith in rw e (omega arith)
start-within ls k (suc n) h =
    ⊎_elim
    (λ (e : k ≡ suc n). rw e (omega arith))
    (λ (l : k < suc n). let i = start-within ls k n (omega arith) in omega (arith, i))
    (eq-or-lt_of_le {n = k} {m = suc n} h)

-- a turn of a loop, at whose start the packets ps follow the packet p: p is that of PDU k
pub record Turn (ls os : List ℕ) (k : ℕ) (p : List ℕ) (ps : List (List ℕ)) : Type 0 where
  pub inside : k < length ls
  pub is : p ≡ packet_in ls os k
  pub rest : ps ≡ drop (k + 1) (packets_in ls os)
  pub grown : start_of ls k + length p ≤ start_of ls (k + 1)
  pub within : start_of ls (k + 1) ≤ start_of ls (length ls)

pub turn : (ls os : List ℕ) (k : ℕ) {p : List ℕ} {ps : List (List ℕ)} → drop k (packets_in ls os) ≡ p ∷ ps → Turn ls os k p ps
turn ls os k {p} {ps} e =
    let l : length (drop k (packets_in ls os)) ≡ length (packets_in ls os) - k = length-drop k (packets_in ls os) in
    let m : length (drop k (packets_in ls os)) ≡ suc (length ps) = ap length e in
    let h : k < length ls = omega (arith, length-packets ls os, l, m) in
    let c = sym e ∙ drop-cons (packets_in ls os) k [] (omega (arith, length-packets ls os, h)) in
    let i : p ≡ packet_in ls os k = ap (λ (q : List (List ℕ)). get_or q 0 []) c ∙ packet-at ls os k [] h in
    let t = length-take (start_of ls k + get_or ls k 0 - start_of ls k) (drop (start_of ls k) os) in
    record {
      inside = h;
      is = i;
      rest = ap (drop 1) c ∙ ap (λ (m : ℕ). drop m (packets_in ls os)) (sym (add-one k));
      grown = rw (add-one k) (omega (arith, ap length i, t));
      within = start-within ls (k + 1) (length ls) (omega arith);
    }

-- and its end
pub ended : (ls os : List ℕ) (k : ℕ) → drop k (packets_in ls os) ≡ [] → k ≤ length ls → k ≡ length ls
ended ls os k e h = omega (arith, ap length e, length-drop k (packets_in ls os), length-packets ls os)

-- the first packet that passes the test t
found : (t : List ℕ → Bool) (ls os : List ℕ) (r : Option ℕ)
    → MatchOption r ((k : ℕ) (d : List ℕ) → 0 ≤ k → k < length (packets_in ls os) → t (get_or (packets_in ls os) k d) ≡ false)
    (λ i. (i < length (packets_in ls os)) × ((d : List ℕ) → t (get_or (packets_in ls os) i d) ≡ true)
    × ((k : ℕ) (d : List ℕ) → 0 ≤ k → k < i → t (get_or (packets_in ls os) k d) ≡ false))
    → IsFirst (λ k. t (packet_in ls os k)) (length ls) r
found t ls os None w = first-none (λ k. t (packet_in ls os k)) (length ls) (λ k h. ap t (sym (packet-at ls os k [] h)) ∙ w k [] (omega arith) (omega (arith, length-packets ls os)))
found t ls os (Some i) w =
    let u : ℕ → Bool = λ k. t (packet_in ls os k) in
    let h : i < length ls = omega (arith, length-packets ls os, w.0) in
    let b = first-none u i (λ k l. ap t (sym (packet-at ls os k [] (omega arith))) ∙ w.2 k [] (omega arith) l) in
    (sym (first_early u i (length ls) b (ap t (sym (packet-at ls os i [] h)) ∙ w.1 []) h), h)

pub first_from_position : {F : Type 0} {g : Mut F (Bor (List ℕ) × Unit {0}) Bool} (t : List ℕ → Bool) (ls os : List ℕ) (s u : Packets) (f : F) (r : Option ℕ)
    → packets_in s.lengths.now s.octets.now ≡ packets_in ls os
    → (xs : List (Bor (List ℕ))) × (o : Option (Bor (List ℕ))) × (j : F) × YieldsThen (YieldsFirstRef (λ (s : Packets). packets_in s.lengths.now s.octets.now)) s xs o u
    × FoldsTo (λ p x q. Called g p (x, tt) false q) f xs j × MatchOption o (r ≡ None) (λ x. (r ≡ Some (length xs)) × ((h : F) × Called g j (x, tt) true h))
    → ((x : Bor (List ℕ)) (b : Bool) (q : F) → Called g f (x, tt) b q → (q ≡ f) × (b ≡ t x.now))
    → IsFirst (λ k. t (packet_in ls os k)) (length ls) r
first_from_position t ls os s u f r e ran calls =
    found t ls os r
    (IsFirst-from_position u f r (λ p. t p ≡ true) (λ p. t p ≡ false) ran (YieldsList-from_first (λ x. x.now) (λ (s : Packets). packets_in s.lengths.now s.octets.now) {s = s} (packets_in ls os) e)
    (λ x q k. sym (calls x true q k).1) (λ x q k. ((calls x false q k).0, sym (calls x false q k).1)))
