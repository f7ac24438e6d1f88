-- Calls on an unchanged record and list, the first from cursor 0 and each later one from the cursor the last one gave, together write
-- the octets of the whole sequence, whatever budgets are used; budget 0 writes nothing and keeps the cursor.
use mathlib.Core.Path.{◌≡◌, refl, sym, ap, ap₂, ◌∙◌}
use mathlib.Core.Bool.{false}
use mathlib.Core.List.{List, [], ◌∷◌, ◌++◌, append_assoc}
use Prim.Native.Nat.{ℕ, zero, suc, ◌+◌, ◌*◌, ◌-◌, ◌≤◌, ◌<◌, min}
use native.Mathlib.Nat.{zero-mul, suc-mul, add-mul, le-div_iff_mul-le, lt-div-mul-add, mul-le-mul_left, mul-le-mul_right}
use native.Mathlib.Omega.{arith}
use native.Mathlib.Decide.{dec_lt}
use lib.ListN.{length, take, drop}
use lib.Seq.{take-append_seam}
use lib.Dec.{eqb}
use borrow.Author.Tests.{ne_eqb}
use Rattle.outcomes.specs.Outcome.{Outcome, accepted, lent}
use Rattle.nak.specs.Pdu.{Nak, pdu}
use Rattle.reception.specs.declared.Reception.{Reception}
use Rattle.reception.specs.Record.{Passed}
use Rattle.sequence.specs.Entries.{Asking, rounded_up, nak_at, naks, octets_of}
use Rattle.sequence.specs.Sequence.{is_bad_size, Allowed, asked, sent, new_cursor, reported}
use Rattle.sequence.specs.declared.Order.{Order}
use Rattle.sequence.specs.Calls.{Call, Fits, AllFit, calling, answered, buffer_after, pdus_in, octets_in, cursor_in, cursor_after, pdus_by, octets_by, budgets, whole_sequence}
use Rattle.sequence.proofs.Accepted.{seq_sent}
use Rattle.sequence.proofs.Sizes.{each-low}

-- the number of PDUs is the number asked for
pub length-naks : (a : Asking) (f n : ℕ) → length (naks a f n) ≡ n
length-naks a f zero = refl
length-naks a f (suc n) = ap suc (length-naks a (f + a.each) n)

-- n + m PDUs are n, and then m from where they end
pub naks-append : (a : Asking) (f n m : ℕ) → naks a f (n + m) ≡ naks a f n ++ naks a (f + n * a.each) m
naks-append a f zero m = let e : f + zero * a.each ≡ f = let z = zero-mul a.each in omega arith in let z : zero + m ≡ m = omega arith in rw (z, e)
naks-append a f (suc n) m =
    let e : f + a.each + n * a.each ≡ f + suc n * a.each = let s = suc-mul n a.each in omega arith in
    let z : suc n + m ≡ suc (n + m) = omega arith in
    rw z (ap (λ (l : List Nak). nak_at a f ∷ l) (naks-append a (f + a.each) n m ∙ rw e))

-- PDUs back to back
pub octets-append : (xs ys : List Nak) → octets_of (xs ++ ys) ≡ octets_of xs ++ octets_of ys
octets-append [] ys = refl
octets-append (x ∷ xs) ys = ap (λ (l : List ℕ). pdu x ++ l) (octets-append xs ys) ∙ sym (append_assoc (pdu x) (octets_of xs) (octets_of ys))

-- a quotient rounded up: the least number of times k that is at least a
pub up-enough : (a k : ℕ) → 1 ≤ k → a ≤ rounded_up a k * k
up-enough a k h = let l = lt-div-mul-add {a = a + (k - 1)} h in omega arith

-- a PDU below the number that is rounded up begins before the last entry
pub begins_before : (e f k n : ℕ) → 1 ≤ k → n < rounded_up (e - f) k → f + n * k < e
begins_before e f k n h l =
    let p : suc n * k ≤ e - f + (k - 1) = (le-div_iff_mul-le h).0 l in
    let s = suc-mul n k in
    omega arith

up_least : (a k n : ℕ) → 1 ≤ k → a ≤ n * k → rounded_up a k ≤ n
up_least a k n h l = go (dec_lt n (rounded_up a k))
  where
    go : Dec (n < rounded_up a k) → rounded_up a k ≤ n
    go (yes u) =
        let p : suc n * k ≤ a + (k - 1) = (le-div_iff_mul-le h).0 u in
        let s = suc-mul n k in
        absurd (omega arith)
    go (no u) = omega arith

up-zero : (k : ℕ) → 1 ≤ k → rounded_up 0 k ≡ 0
up-zero k h = let l = up_least 0 k 0 h (let z = zero-mul k in omega arith) in omega arith

up_more : (x k g : ℕ) → 1 ≤ k → g * k ≤ x → g ≤ rounded_up x k
up_more x k g h l = go (dec_lt (rounded_up x k) g)
  where
    go : Dec (rounded_up x k < g) → g ≤ rounded_up x k
    go (yes u) =
        let e = up-enough x k h in
        let m = mul-le-mul_right {m = suc (rounded_up x k)} {n = g} k u in
        let s = suc-mul (rounded_up x k) k in
        absurd (omega arith)
    go (no u) = omega arith

up_sub : (x k g : ℕ) → 1 ≤ k → g * k ≤ x → rounded_up (x - g * k) k ≡ rounded_up x k - g
up_sub x k g h l =
    let r : ℕ = rounded_up x k in
    let q : ℕ = rounded_up (x - g * k) k in
    let d : ℕ = r - g in
    let m = up_more x k g h l in
    let e : r ≡ g + d = omega arith in
    let s : r * k ≡ g * k + d * k = ap (λ (n : ℕ). n * k) e ∙ add-mul g d k in
    let t = add-mul g q k in
    let a = up-enough x k h in
    let b = up-enough (x - g * k) k h in
    let u = up_least (x - g * k) k d h (omega arith) in
    let v = up_least x k (g + q) h (omega arith) in
    omega arith

-- a call writes its PDUs, and the calls behind it the rest
module _ (a : Asking) (h : 1 ≤ a.each) (j g b : ℕ) (l : j ≤ length a.entries) where
  abbrev E : ℕ
  E = length a.entries

  abbrev k : ℕ
  k = a.each

  -- the PDUs from entry f on
  abbrev left : ℕ → ℕ
  left f = rounded_up (E - f) k

  abbrev next : ℕ
  next = min E (j + g * k)

  counts : Dec (E < j + g * k) → min g (left j) + min b (left next) ≡ min (g + b) (left j)
  counts (yes u) =
      let z : left next ≡ 0 = ap (λ (n : ℕ). rounded_up n k) {x = E - next} {y = 0} (omega arith) ∙ up-zero k h in
      let r = up_least (E - j) k g h (omega arith) in
      omega arith
  counts (no u) =
      let s : left next ≡ left j - g = ap (λ (n : ℕ). rounded_up n k) {x = E - next} {y = E - j - g * k} (omega arith) ∙ up_sub (E - j) k g h (omega arith) in
      let m = up_more (E - j) k g h (omega arith) in
      omega arith

  -- where PDUs are left to write, the call has written g of them
  full : Dec (E < j + g * k) → naks a next (min b (left next)) ≡ naks a (j + min g (left j) * k) (min b (left next))
  full (yes u) =
      let z : left next ≡ 0 = ap (λ (n : ℕ). rounded_up n k) {x = E - next} {y = 0} (omega arith) ∙ up-zero k h in
      let y : min b (left next) ≡ 0 = omega arith in
      rw y
  full (no u) =
      let m = up_more (E - j) k g h (omega arith) in
      let p : min g (left j) ≡ g = omega arith in
      let e : next ≡ j + min g (left j) * k = rw p (omega arith) in
      ap (λ (f : ℕ). naks a f (min b (left next))) e

  pub count_seam : min g (left j) + min b (left next) ≡ min (g + b) (left j)
  count_seam = counts (dec_lt E (j + g * k))

  pub octets_seam : octets_of (naks a j (min g (left j))) ++ octets_of (naks a next (min b (left next))) ≡ octets_of (naks a j (min (g + b) (left j)))
  octets_seam =
      ap (λ (ns : List Nak). octets_of (naks a j (min g (left j))) ++ octets_of ns) (full (dec_lt E (j + g * k)))
      ∙ sym (octets-append (naks a j (min g (left j))) (naks a (j + min g (left j) * k) (min b (left next))))
      ∙ ap octets_of (sym (naks-append a j (min g (left j)) (min b (left next))) ∙ ap (naks a j) count_seam)

  pub cursor_seam : min E (next + b * k) ≡ min E (j + (g + b) * k)
  cursor_seam = let s = add-mul g b k in omega arith

-- a refused call reports nothing, and leaves its buffer and the cursor as they were
module _ (rec : Reception) (xs : List ℕ) (o : Order) (j : ℕ) (c : Call) (r : (answered rec xs o j c).number ≡ 0 → ⊥) where
  abbrev none : eqb (answered rec xs o j c).number 0 ≡ false
  none = ne_eqb (answered rec xs o j c).number 0 r

  pub refused-buffer : buffer_after rec xs o j c ≡ c.buffer
  refused-buffer = rw none

  pub refused-cursor : cursor_in j (answered rec xs o j c) ≡ j
  refused-cursor = rw none

  -- so the run goes on as if it had not been made
  pub refused_gone : (cs : List Call) → octets_by rec xs o j (c ∷ cs) ≡ octets_by rec xs o j cs
  refused_gone cs = rw none

-- calls on a sound record and an order that checks 13, 14 and 7 pass
module _
    (rec : Reception) (xs : List ℕ) (o : Order)
    (ps : Passed xs rec)
    (ok : Allowed rec xs o)
  where
    abbrev a : Asking
    a = asked rec xs o

    abbrev each : 1 ≤ a.each
    each = each-low o ok.size

    -- the PDUs from entry f on
    abbrev from : ℕ → ℕ
    from f = rounded_up (length a.entries - f) a.each

    abbrev reports : ℕ → Call → Outcome
    reports j c = reported a (calling o j c)

    still : (j : ℕ) (c : Call) → Allowed rec xs (calling o j c)
    unfolding is_bad_size
    still j c = record { identity = ok.identity; reserved = ok.reserved; size = ok.size; numbers = ok.numbers }

    -- a call whose budget is at most 16 and whose buffer has room is accepted
    pub call-sent : (j : ℕ) (c : Call) → j ≤ length a.entries → Fits o c → answered rec xs o j c ≡ reports j c
    call-sent j c l f =
        sym (seq_sent rec xs (calling o j c) (length c.buffer)
        (record { passed = ps; allowed = still j c; cursor = l; budget = f.0; room = f.1 }))

    call-octets : (j : ℕ) (c : Call) → j ≤ length a.entries → Fits o c
        → take (octets_in (answered rec xs o j c)) (buffer_after rec xs o j c) ≡ sent a (calling o j c)
    call-octets j c l f =
        let w : List ℕ = sent a (calling o j c) in
        ap (λ (p : Outcome). take (octets_in p) (lent p (w ++ drop (length w) c.buffer) c.buffer)) (call-sent j c l f)
        ∙ take-append_seam w (drop (length w) c.buffer)

    -- what a run of calls from cursor j on comes to
    pub record Ran (j : ℕ) (cs : List Call) : Type 0 where
      pub octets : octets_by rec xs o j cs ≡ octets_of (naks a j (min (budgets cs) (from j)))
      pub pdus : pdus_by rec xs o j cs ≡ min (budgets cs) (from j)
      pub cursor : cursor_after rec xs o j cs ≡ min (length a.entries) (j + budgets cs * a.each)

    pub ran : (cs : List Call) (j : ℕ) → j ≤ length a.entries → AllFit o cs → Ran j cs
    ran [] j l f =
        let e : min zero (from j) ≡ zero = omega arith in
        let z = zero-mul a.each in
        record { octets = rw e; pdus = sym e; cursor = omega arith }
    ran (c ∷ cs) j l f =
        let s = call-sent j c l f.0 in
        let i : ℕ = new_cursor a (calling o j c) in
        let n : cursor_in j (answered rec xs o j c) ≡ i = ap (cursor_in j) s in
        let r = ran cs i (omega arith) f.1 in
        record {
          octets =
              ap₂ ◌++◌ (call-octets j c l f.0) (ap (λ (m : ℕ). octets_by rec xs o m cs) n ∙ r.octets)
              ∙ octets_seam a each j c.budget (budgets cs) l;
          pdus =
              ap₂ ◌+◌ (ap pdus_in s) (ap (λ (m : ℕ). pdus_by rec xs o m cs) n ∙ r.pdus)
              ∙ count_seam a each j c.budget (budgets cs) l;
          cursor =
              ap (λ (m : ℕ). cursor_after rec xs o m cs) n ∙ r.cursor ∙ cursor_seam a each j c.budget (budgets cs) l;
        }

    -- every call of a run from cursor 0 is accepted, whatever calls came before it
    pub run-accepted : (cs : List Call) (c : Call) → AllFit o cs → Fits o c → (answered rec xs o (cursor_after rec xs o 0 cs) c).number ≡ 0
    run-accepted cs c f g =
        let r = (ran cs 0 (omega arith) f).cursor in
        ap (λ (p : Outcome). p.number) (call-sent (cursor_after rec xs o 0 cs) c (omega arith) g)

    -- budget 0 writes nothing and keeps the cursor
    pub nothing-sent : (j : ℕ) (buf : List ℕ) → j ≤ length a.entries
        → (answered rec xs o j (record { budget = 0; buffer = buf }) ≡ accepted (0 ∷ 0 ∷ j ∷ [])) × (buffer_after rec xs o j (record { budget = 0; buffer = buf }) ≡ buf)
    nothing-sent j buf l =
        let c : Call = record { budget = 0; buffer = buf } in
        let e : min 0 (from j) ≡ 0 = omega arith in
        let z = zero-mul a.each in
        let p = zero-mul o.largest in
        let n : new_cursor a (calling o j c) ≡ j = omega arith in
        let s : answered rec xs o j c ≡ accepted (0 ∷ 0 ∷ j ∷ []) = call-sent j c l (omega arith, omega arith) ∙ rw (e, n) in
        (s, rw (s, e))

    -- budgets that add up to at least E/k, rounded up
    module _ (cs : List Call) (f : AllFit o cs) (enough : rounded_up (length a.entries) a.each ≤ budgets cs) where
      all : from 0 ≡ rounded_up (length a.entries) a.each
      all = ap (λ (n : ℕ). rounded_up n a.each) {x = length a.entries - 0} {y = length a.entries} (omega arith)

      -- write the whole sequence
      pub run-whole : octets_by rec xs o 0 cs ≡ whole_sequence rec xs o
      run-whole =
          let r = (ran cs 0 (omega arith) f).octets in
          let m = mul-le-mul_left (length a.entries) each in
          let u = up_least (length a.entries) a.each (length a.entries) each (omega arith) in
          let e : min (budgets cs) (from 0) ≡ from 0 = omega (arith, all) in
          let d : min (length a.entries) (from 0) ≡ from 0 = omega (arith, all) in
          r ∙ rw (e, d)

      -- in E/k PDUs, rounded up
      pub run-pdus : pdus_by rec xs o 0 cs ≡ rounded_up (length a.entries) a.each
      run-pdus = (ran cs 0 (omega arith) f).pdus ∙ omega (arith, all)

      -- and the cursor is E
      pub run-cursor : cursor_after rec xs o 0 cs ≡ length a.entries
      run-cursor =
          let r = (ran cs 0 (omega arith) f).cursor in
          let u = up-enough (length a.entries) a.each each in
          let m = mul-le-mul_right {m = rounded_up (length a.entries) a.each} {n = budgets cs} a.each enough in
          r ∙ omega arith
