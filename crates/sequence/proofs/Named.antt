-- What the octets of a run of calls name, for the record and the list that any history of events leaves. Parted by their own length
-- fields and read, they name each missing octet once and no other, and ask for metadata once exactly if it is missing.
use mathlib.Core.Path.{◌≡◌, refl, sym, ap, ◌∙◌}
use mathlib.Core.Bool.{Bool, true, false, not, cond}
use mathlib.Core.List.{List, [], ◌∷◌}
use mathlib.Core.Logic.{inr, ⊎_elim, ◌↔◌}
use Prim.Native.Nat.{ℕ, zero, suc, ◌+◌, ◌*◌, ◌-◌, ◌≤◌, ◌<◌, min}
use native.Mathlib.Omega.{arith}
use lib.ListN.{length, get_or}
use lib.Seq.{take_all}
use lib.Dec.{eqb}
use borrow.Author.Tests.{ne_eqb}
use Rattle.ranges.specs.Range.{Range, range, In, Covers, Above, Coalesced}
use Rattle.ranges.specs.declared.Width.{Width}
use Rattle.ranges.proofs.Covering.{above_covers, at_covers}
use Rattle.ranges.proofs.Fewest.{fewest}
use Rattle.ranges.proofs.Test.{and_none}
use Rattle.nak.specs.Request.{metadata_asked}
use Rattle.reception.specs.History.{Event, State, fresh, run, ranges_of, metadata_came, kept, largest_end, told_size, Missing}
use Rattle.reception.specs.Record.{Passed}
use Rattle.ranges.specs.Store.{most_pairs}
use Rattle.reception.proofs.Records.{mark_metadata, progress-largest}
use Rattle.reception.proofs.Answered.{size-is-progress}
use Rattle.reception.proofs.Histories.{missing_exact, list-coalesced, always_sound}
use Rattle.sequence.specs.Entries.{Asking, entries_of, rounded_up, naks, octets_of}
use Rattle.sequence.specs.Sequence.{Allowed, asked}
use Rattle.sequence.specs.declared.Order.{Order}
use Rattle.sequence.specs.Calls.{Call, Fits, AllFit, answered, cursor_after, pdus_by, octets_by, budgets, whole_sequence}
use Rattle.sequence.specs.Parted.{parted, joined, AllRead, ScopesJoin, requests_read}
use Rattle.sequence.proofs.Sizes.{each-low}
use Rattle.sequence.proofs.Together.{length-naks, up-enough, ran, run-accepted, run-whole, run-pdus, run-cursor}
use Rattle.sequence.proofs.Parting.{pdus, length-pdus, joined-pdus, requests-naks, parted-naks, all_read, scopes-join, requests-read}

-- the entry (0, 0) has no offset
pub entries_cover : (m : Bool) (rs : List Range) (x : ℕ) → Covers x (entries_of m rs) ↔ Covers x rs
entries_cover true rs x = (⊎_elim (λ h. absurd (omega arith)) (λ h. h), λ h. inr h)
entries_cover false rs x = (λ h. h, λ h. h)

-- an offset is in one range of a coalesced list only
one_place : (d x : ℕ) (rs : List Range) → Above d rs → (i j : ℕ) → i < length rs → j < length rs → In x (get_or rs i (range 0 0)) → In x (get_or rs j (range 0 0)) → i ≡ j
one_place d x [] s i j u v g h = absurd (omega arith)
one_place d x (r ∷ rs) s zero zero u v g h = refl
one_place d x (r ∷ rs) s zero (suc j) u v g h = let k = above_covers (suc r.end) x rs s.2 (at_covers x rs j (omega arith) h) in absurd (omega arith)
one_place d x (r ∷ rs) s (suc i) zero u v g h = let k = above_covers (suc r.end) x rs s.2 (at_covers x rs i (omega arith) g) in absurd (omega arith)
one_place d x (r ∷ rs) s (suc i) (suc j) u v g h = ap suc (one_place (suc r.end) x rs s.2 i j (omega arith) (omega arith) g h)

pub entry-once : (m : Bool) (rs : List Range) → Coalesced rs → (x i j : ℕ) → i < length (entries_of m rs) → j < length (entries_of m rs)
    → In x (get_or (entries_of m rs) i (range 0 0)) → In x (get_or (entries_of m rs) j (range 0 0)) → i ≡ j
entry-once false rs s x i j u v g h = one_place 0 x rs s i j u v g h
entry-once true rs s x zero j u v g h = absurd (omega arith)
entry-once true rs s x (suc i) zero u v g h = absurd (omega arith)
entry-once true rs s x (suc i) (suc j) u v g h = ap suc (one_place 0 x rs s i j (omega arith) (omega arith) g h)

-- no range of a coalesced list asks for metadata
no_metadata : (d : ℕ) (rs : List Range) → Above d rs → metadata_asked rs ≡ 0
no_metadata d [] s = refl
no_metadata d (r ∷ rs) s =
    let i = no_metadata (suc r.end) rs s.2 in
    rw (ne_eqb r.end 0 (λ e. omega arith), and_none (eqb r.start 0)) (omega arith)

pub metadata-entries : (m : Bool) (rs : List Range) → Coalesced rs → metadata_asked (entries_of m rs) ≡ cond m 1 0
metadata-entries true rs s = let i = no_metadata 0 rs s in omega arith
metadata-entries false rs s = no_metadata 0 rs s

-- one request where the metadata is missing
asked_if : (m c : Bool) → m ≡ not c → ◌≡◌ {A = ℕ} (cond m 1 0) (cond c 0 1)
asked_if m true e = rw e
asked_if m false e = rw e

length-entries : (m : Bool) (rs : List Range) → length (entries_of m rs) ≡ length rs + cond m 1 0
length-entries true rs = omega arith
length-entries false rs = omega arith

-- a run of calls on the record that any history leaves, for an order that is allowed
module _
    (w : Width) (xs : List ℕ) (N : ℕ) (size : length xs ≡ 2 * N) (few : N ≤ most_pairs) (es : List Event)
    (o : Order)
    (ok : Allowed (run (fresh w xs) es).rec (run (fresh w xs) es).list o)
    (cs : List Call) (fit : AllFit o cs)
  where
    abbrev reached : State
    reached = run (fresh w xs) es

    abbrev a : Asking
    a = asked reached.rec reached.list o

    sound : Passed reached.list reached.rec
    sound = always_sound w xs N size few es

    -- the octets that the answers report, in order, and the PDUs in them
    abbrev octets : List ℕ
    octets = octets_by reached.rec reached.list o 0 cs

    abbrev count : ℕ
    count = min (budgets cs) (rounded_up (length a.entries - 0) a.each)

    some-octets : octets ≡ octets_of (naks a 0 count)
    some-octets = (ran reached.rec reached.list o sound ok cs 0 (omega arith) fit).octets

    parts : parted octets ≡ pdus (naks a 0 count)
    parts = ap parted some-octets ∙ parted-naks reached.rec reached.list o sound ok 0 count

    -- a further call whose budget is at most 16 and whose buffer has room is accepted
    pub calls-accepted : (c : Call) → Fits o c → (answered reached.rec reached.list o (cursor_after reached.rec reached.list o 0 cs) c).number ≡ 0
    calls-accepted c f = run-accepted reached.rec reached.list o sound ok cs c fit f

    -- as many PDUs stand in the buffers as the answers report, and nothing else
    pub calls-parted : (length (parted octets) ≡ pdus_by reached.rec reached.list o 0 cs) × (joined (parted octets) ≡ octets)
    calls-parted =
        let r = (ran reached.rec reached.list o sound ok cs 0 (omega arith) fit).pdus in (
          ap length parts ∙ length-pdus (naks a 0 count) ∙ length-naks a 0 count ∙ sym r,
          ap joined parts ∙ joined-pdus (naks a 0 count) ∙ sym some-octets,
        )

    -- the reader accepts each, none is longer than P, and each carries the identity and the form of the order
    pub calls-read : AllRead o.largest o.identity o.form (parted octets)
    calls-read = rw parts (all_read reached.rec reached.list o sound ok 0 count)

    -- once the budgets suffice
    module _ (enough : rounded_up (length a.entries) a.each ≤ budgets cs) where
      -- the octets are those of the whole sequence
      pub calls-whole : octets ≡ whole_sequence reached.rec reached.list o
      calls-whole = run-whole reached.rec reached.list o sound ok cs fit enough

      -- the PDUs reported add up to E/k, rounded up, and the cursor is E
      pub calls-pdus : pdus_by reached.rec reached.list o 0 cs ≡ rounded_up (length a.entries) a.each
      calls-pdus = run-pdus reached.rec reached.list o sound ok cs fit enough

      pub calls-cursor : cursor_after reached.rec reached.list o 0 cs ≡ length a.entries
      calls-cursor = run-cursor reached.rec reached.list o sound ok cs fit enough

      every : count ≡ rounded_up (length a.entries) a.each
      every =
          ap (λ (n : ℕ). min (budgets cs) (rounded_up n a.each)) {x = length a.entries - 0} {y = length a.entries} (omega arith) ∙ omega arith

      -- where there is an entry, the scopes read join from 0 to progress
      pub calls-scopes : 1 ≤ length a.entries → ScopesJoin o.form.edition 0 reached.rec.progress (parted octets)
      calls-scopes h = rw parts (scopes-join reached.rec reached.list o sound ok count every h)

      -- the requests read are the entries, in order
      pub requests : requests_read o.form.edition (parted octets) ≡ entries_of reached.rec.missing (ranges_of reached)
      requests =
          let u = up-enough (length a.entries) a.each (each-low o ok.size) in
          let m : length a.entries ≤ count * a.each = rw every u in
          ap (requests_read o.form.edition) parts
          ∙ requests-read reached.rec reached.list o sound ok 0 count
          ∙ requests-naks a 0 count
          ∙ take_all (count * a.each) a.entries m

      -- they name each missing octet and no other
      pub names-missing : (x : ℕ) → Covers x (requests_read o.form.edition (parted octets)) ↔ Missing (fresh w xs) es x
      names-missing x =
          let c = entries_cover reached.rec.missing (ranges_of reached) x in
          let m = missing_exact w xs N size few es x in
          rw requests (λ h. m.0 (c.0 h), λ h. c.1 (m.1 h))

      -- once an EOF told the size z, they name exactly the octets below z that no kept range covers, the tail among them, and the last
      -- scope ends at z
      pub names-tail : (z : ℕ) → told_size (fresh w xs) es ≡ z ∷ []
          → ((x : ℕ) → Covers x (requests_read o.form.edition (parted octets)) ↔ ((x < z) × (Covers x (kept (fresh w xs) es) → ⊥)))
          × (1 ≤ length a.entries → ScopesJoin o.form.edition 0 z (parted octets))
      names-tail z e =
          let p = size-is-progress w xs N size few es z e in
          let q : largest_end (fresh w xs) es ≡ z = sym (progress-largest w xs es) ∙ p in
          (λ x. rw q at (names-missing x), λ h. rw p at (calls-scopes h))

      -- each once
      pub names-once : (x i j : ℕ) → i < length (requests_read o.form.edition (parted octets)) → j < length (requests_read o.form.edition (parted octets))
          → In x (get_or (requests_read o.form.edition (parted octets)) i (range 0 0)) → In x (get_or (requests_read o.form.edition (parted octets)) j (range 0 0)) → i ≡ j
      names-once = rw requests (entry-once reached.rec.missing (ranges_of reached) (list-coalesced w xs N size few es))

      -- they ask for metadata once exactly if it is missing: if no metadata event was accepted
      pub metadata-once : metadata_asked (requests_read o.form.edition (parted octets)) ≡ cond (metadata_came (fresh w xs) es) 0 1
      metadata-once =
          ap metadata_asked requests
          ∙ metadata-entries reached.rec.missing (ranges_of reached) (list-coalesced w xs N size few es)
          ∙ asked_if reached.rec.missing (metadata_came (fresh w xs) es) (mark_metadata w xs es)

      -- and no list of fewer ranges names the same octets
      pub names-fewest : (qs : List Range) → ((x : ℕ) → Covers x qs ↔ Missing (fresh w xs) es x)
          → length (requests_read o.form.edition (parted octets)) ≤ length qs + cond (metadata_came (fresh w xs) es) 0 1
      names-fewest qs f =
          let m = missing_exact w xs N size few es in
          let k =
          fewest (ranges_of reached) qs (list-coalesced w xs N size few es)
          (λ x. (λ h. (f x).1 ((m x).0 h), λ h. (m x).1 ((f x).0 h))) in
          let e = length-entries reached.rec.missing (ranges_of reached) in
          let c = asked_if reached.rec.missing (metadata_came (fresh w xs) es) (mark_metadata w xs es) in
          rw (requests, ← c) (omega arith)
