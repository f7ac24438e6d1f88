-- Our own sequence, proposed as a plan, fits: under either edition, with the trailer or without.
use mathlib.Core.Path.{◌≡◌, refl, sym, ap, ap₂, ◌∙◌}
use mathlib.Core.Bool.{Bool, true, false, not}
use mathlib.Core.List.{List, [], ◌∷◌, ◌++◌, Memᴰ, append_assoc, append-nil}
use Prim.Native.Nat.{ℕ, zero, suc, ◌+◌, ◌*◌, ◌-◌, ◌≤◌, ◌<◌, min}
use native.Mathlib.Omega.{arith}
use native.Mathlib.Decide.{dec_lt}
use native.Mathlib.Nat.{suc-mul, zero-mul}
use lib.ListN.{length, get_or, take, drop, length-take, length-drop, length-append}
use lib.Seq.{take_all, take-suc, take_at, drop-append-add, get_or-take, get_or-drop}
use borrow.Author.Tests.{eq-eqb, le-ltb, lt-ltb}
use Rattle.ranges.specs.Range.{Range, range, Above, Coalesced, last_end, range_at}
use Rattle.ranges.specs.Store.{counted}
use Rattle.ranges.proofs.Last.{ends_le, last-tail}
use Rattle.ranges.proofs.Holder.{member_at}
use Rattle.outcomes.specs.Outcome.{accepted}
use Rattle.nak.specs.declared.Edition.{Edition}
use Rattle.nak.specs.Pdu.{pdu}
use Rattle.nak.specs.Request.{metadata_asked}
use Rattle.nak_parsing.specs.Parser.{Says, parsed_of}
use Rattle.nak_parsing.specs.Step.{requests_given}
use Rattle.reception.specs.declared.Reception.{Reception}
use Rattle.reception.specs.Record.{record_checks, Passed}
use Rattle.reception.proofs.Sound.{sound, none-join}
use Rattle.sequence.specs.Entries.{Asking, entries_of, scope_start, scope_end, nak_at, naks, octets_of, rounded_up}
use Rattle.sequence.specs.Sequence.{Allowed, asked}
use Rattle.sequence.specs.declared.Order.{Order}
use Rattle.sequence.specs.Calls.{Call, AllFit, octets_by, budgets}
use Rattle.sequence.specs.Parted.{parted, joined, requests_read}
use Rattle.sequence.proofs.Parting.{pdus, joined-pdus, length-pdus, parted-naks, requests-read, requests-naks}
use Rattle.sequence.proofs.Sizes.{each-low}
use Rattle.sequence.proofs.Together.{up-enough, ran}
use Rattle.sequence.proofs.Readable.{pdu_readable}
use Rattle.sequence.proofs.Named.{entry-once, metadata-entries, entries_cover}
use Rattle.planning.specs.Plan.{Plan, plan, start_of, packet_in, packet, requests_of, asked_before, lengths_of}
use Rattle.planning.specs.Plan as proposed
use Rattle.planning.specs.Fits.{Fits}
use Rattle.planning.specs.Check.{most_pdus, sum_of, room_for, proposal_checks, plan_outcome}
use Rattle.planning.proofs.Exactly.{accepted_exactly}

-- packets joined are told apart by their lengths
start_cons : (l : ℕ) (ls : List ℕ) (k : ℕ) → start_of (l ∷ ls) (suc k) ≡ l + start_of ls k
start_cons l ls zero = omega arith
start_cons l ls (suc k) = let i = start_cons l ls k in omega arith

part-first : (q : List ℕ) (ls os : List ℕ) → packet_in (length q ∷ ls) (q ++ os) 0 ≡ q
part-first q ls os = take_at q os (0 + length q - 0) (omega arith)

part_cons : (q : List ℕ) (ls os : List ℕ) (k : ℕ) → packet_in (length q ∷ ls) (q ++ os) (suc k) ≡ packet_in ls os k
part_cons q ls os k =
    let s = start_cons (length q) ls k in
    let e : start_of (length q ∷ ls) (suc k) + get_or ls k 0 - start_of (length q ∷ ls) (suc k) ≡ start_of ls k + get_or ls k 0 - start_of ls k = omega arith in
    ap (λ (n : ℕ). take n (drop (start_of (length q ∷ ls) (suc k)) (q ++ os))) e
    ∙ ap (λ (n : ℕ). take (start_of ls k + get_or ls k 0 - start_of ls k) (drop n (q ++ os))) s
    ∙ ap (take (start_of ls k + get_or ls k 0 - start_of ls k)) (drop-append-add q os (start_of ls k))

packet-joined : (ps : List (List ℕ)) (k : ℕ) → k < length ps → packet_in (lengths_of ps) (joined ps) k ≡ get_or ps k []
packet-joined [] k h = absurd (omega arith)
packet-joined (q ∷ ps) zero h = part-first q (lengths_of ps) (joined ps)
packet-joined (q ∷ ps) (suc k) h = part_cons q (lengths_of ps) (joined ps) k ∙ packet-joined ps k (omega arith)

pub length-lengths : (ps : List (List ℕ)) → length (lengths_of ps) ≡ length ps
length-lengths [] = refl
length-lengths (q ∷ ps) = ap suc (length-lengths ps)

-- the lengths sum to the octets
sum-joined : (ps : List (List ℕ)) → start_of (lengths_of ps) (length (lengths_of ps)) ≡ length (joined ps)
sum-joined [] = refl
sum-joined (q ∷ ps) = start_cons (length q) (lengths_of ps) (length (lengths_of ps)) ∙ omega (arith, sum-joined ps, length-append q (joined ps))

-- and so are their requests
read_append : (v : Edition) (ps qs : List (List ℕ)) → requests_read v (ps ++ qs) ≡ requests_read v ps ++ requests_read v qs
read_append v [] qs = refl
read_append v (q ∷ ps) qs = ap (λ (l : List Range). requests_given v q ++ l) (read_append v ps qs) ∙ sym (append_assoc (requests_given v q) (requests_read v ps) (requests_read v qs))

asked-joined : (v : Edition) (ps : List (List ℕ)) (k : ℕ) → k ≤ length ps → asked_before (plan v (lengths_of ps) (joined ps)) k ≡ requests_read v (take k ps)
asked-joined v ps zero h = refl
asked-joined v ps (suc k) h =
    ap₂ ◌++◌ (asked-joined v ps k (omega arith)) (ap (requests_given v) (packet-joined ps k (omega arith)) ∙ sym (append-nil (requests_given v (get_or ps k []))))
    ∙ sym (read_append v (take k ps) (get_or ps k [] ∷ []))
    ∙ ap (requests_read v) (sym (take-suc ps k [] (omega arith)))

-- PDU k of n
pdu-at : (a : Asking) (f n k : ℕ) → k < n → get_or (pdus (naks a f n)) k [] ≡ pdu (nak_at a (f + k * a.each))
pdu-at a f zero k h = absurd (omega arith)
pdu-at a f (suc n) zero h = let z = zero-mul a.each in ap (λ (i : ℕ). pdu (nak_at a i)) {x = f} {y = f + 0 * a.each} (omega arith)
pdu-at a f (suc n) (suc k) h =
    let m = suc-mul k a.each in
    pdu-at a (f + a.each) n k (omega arith)
    ∙ ap (λ (i : ℕ). pdu (nak_at a i)) {x = f + a.each + k * a.each} {y = f + suc k * a.each} (omega arith)

length-naks : (a : Asking) (f n : ℕ) → length (naks a f n) ≡ n
length-naks a f zero = refl
length-naks a f (suc n) = ap suc (length-naks a (f + a.each) n)

-- entries that ascend: each starts at the end of the one before or above, and ends at its start or above
abbrev Ascends : List Range → Type 0
Ascends es = (i : ℕ) → suc i < length es → ((range_at es i).end ≤ (range_at es (suc i)).start) × ((range_at es (suc i)).start ≤ (range_at es (suc i)).end)

above_ascends : (d : ℕ) (rs : List Range) → Above d rs → Ascends rs
above_ascends d [] s i h = absurd (omega arith)
above_ascends d (r ∷ []) s i h = absurd (omega arith)
above_ascends d (r ∷ q ∷ rs) s zero h = (omega (arith, s.2.0), omega (arith, s.2.1))
above_ascends d (r ∷ q ∷ rs) s (suc i) h = above_ascends (suc r.end) (q ∷ rs) s.2 i (omega arith)

metadata_ascends : (rs : List Range) → Coalesced rs → Ascends (range 0 0 ∷ rs)
metadata_ascends [] s i h = absurd (omega arith)
metadata_ascends (r ∷ rs) s zero h = (omega arith, omega (arith, s.1))
metadata_ascends (r ∷ rs) s (suc i) h = above_ascends 0 (r ∷ rs) s i (omega arith)

entries_ascend : (m : Bool) (rs : List Range) → Coalesced rs → Ascends (entries_of m rs)
entries_ascend true rs s = metadata_ascends rs s
entries_ascend false rs s = above_ascends 0 rs s

ends-up : (es : List Range) → Ascends es → (i n : ℕ) → i + n < length es → (range_at es i).end ≤ (range_at es (i + n)).end
ends-up es f i zero h = ap-le (omega arith)
  where
    ap-le : i ≡ i + zero → (range_at es i).end ≤ (range_at es (i + zero)).end
    ap-le e = rw (← e) (omega arith)
ends-up es f i (suc n) h =
    let k = ends-up es f i n (omega arith) in
    let w = f (i + n) (omega arith) in
    let e : i + suc n ≡ suc (i + n) = omega arith in
    rw e (omega (arith, w.0, w.1, k))

ends-below : (d p : ℕ) (rs : List Range) → Above d rs → last_end rs ≤ p → (i : ℕ) → (range_at rs i).end ≤ p
ends-below d p [] s h i = omega arith
ends-below d p (r ∷ rs) s h zero = omega (arith, ends_le d r rs s)
ends-below d p (r ∷ rs) s h (suc i) = ends-below (suc r.end) p rs s.2 (omega (arith, last-tail d r rs s)) i

entries_below : (m : Bool) (p : ℕ) (rs : List Range) → Coalesced rs → last_end rs ≤ p → (i : ℕ) → (range_at (entries_of m rs) i).end ≤ p
entries_below false p rs s h i = ends-below 0 p rs s h i
entries_below true p rs s h zero = omega arith
entries_below true p rs s h (suc i) = ends-below 0 p rs s h i

-- the scope of the PDU from entry f on has each of its entries
starts_in : (es : List Range) → Ascends es → (f i : ℕ) → f + i < length es → scope_start es f ≤ (range_at es (f + i)).start
starts_in es g zero i h = omega arith
starts_in es g (suc f) i h =
    let k = ends-up es g f i (omega arith) in
    let w = g (f + i) (omega arith) in
    let e : suc f + i ≡ suc (f + i) = omega arith in
    rw e (omega (arith, k, w.0))

-- a member of the entries of a PDU is an entry
entry_of : (es : List Range) (f k : ℕ) (r : Range) → Memᴰ r (take k (drop f es)) → (i : ℕ) × (i < k) × (f + i < length es) × (range_at es (f + i) ≡ r)
entry_of es f k r m =
    let w = member_at r (take k (drop f es)) m in
    let t = length-take k (drop f es) in
    let d = length-drop f es in
    let i : w.0 < k = omega (arith, w.1) in
    let j : f + w.0 < length es = omega (arith, w.1) in
    (w.0, i, j, sym (get_or-take k (drop f es) w.0 (range 0 0) i ∙ get_or-drop f es w.0 (range 0 0)) ∙ w.2)

-- the PDUs of a sound record and an order that is allowed, n of them, enough for every entry
module _ (rec : Reception) (xs : List ℕ) (o : Order) (ps : Passed xs rec) (ok : Allowed rec xs o) (n : ℕ) (enough : length (asked rec xs o).entries ≤ n * (asked rec xs o).each) where
  abbrev a : Asking
  a = asked rec xs o

  abbrev v : Edition
  v = o.form.edition

  abbrev own : List (List ℕ)
  own = pdus (naks a 0 n)

  abbrev pub own_plan : Plan
  own_plan = plan v (lengths_of own) (octets_of (naks a 0 n))

  count : length own ≡ n
  count = length-pdus (naks a 0 n) ∙ length-naks a 0 n

  pub own_count : length (lengths_of own) ≡ n
  own_count = length-lengths own ∙ count

  ascends : Ascends a.entries
  ascends = entries_ascend rec.missing (counted xs rec.count) (sound xs rec ps).whole

  -- the entries of a PDU end within its scope
  ends-in : (f i : ℕ) → i < a.each → f + i < length a.entries → (range_at a.entries (f + i)).end ≤ scope_end a f
  ends-in f i l h = go (dec_lt (f + a.each) (length a.entries))
    where
      go : Dec (f + a.each < length a.entries) → (range_at a.entries (f + i)).end ≤ scope_end a f
      go (yes g) =
          let e : f + i + (a.each - 1 - i) ≡ f + a.each - 1 = omega arith in
          let u = rw e at (ends-up a.entries ascends (f + i) (a.each - 1 - i) (omega arith)) in
          rw (lt-ltb (f + a.each) (length a.entries) g) u
      go (no g) =
          let b = entries_below rec.missing rec.progress (counted xs rec.count) (sound xs rec ps).whole (sound xs rec ps).above (f + i) in
          rw (le-ltb (f + a.each) (length a.entries) (omega arith)) b

  octets-joined : octets_of (naks a 0 n) ≡ joined own
  octets-joined = sym (joined-pdus (naks a 0 n))

  -- PDU k of the plan is the PDU from entry k times each on
  packet-is : (k : ℕ) → k < n → packet own_plan k ≡ pdu (nak_at a (k * a.each))
  packet-is k h =
      ap (λ (os : List ℕ). packet_in (lengths_of own) os k) octets-joined
      ∙ packet-joined own k (omega (arith, count))
      ∙ pdu-at a 0 n k h
      ∙ ap (λ (i : ℕ). pdu (nak_at a i)) {x = 0 + k * a.each} {y = k * a.each} (omega arith)

  says : (k : ℕ) → Says (pdu (nak_at a (k * a.each))) (nak_at a (k * a.each))
  says k = (pdu_readable rec xs o ps ok (k * a.each)).1

  given_is : (k : ℕ) → k < n → requests_of own_plan k ≡ take a.each (drop (k * a.each) a.entries)
  given_is k h = ap (requests_given v) (packet-is k h) ∙ rw (pdu_readable rec xs o ps ok (k * a.each)).0 (says k).requests

  -- all its requests are the entries
  asked_is : proposed.asked own_plan ≡ a.entries
  asked_is =
      ap (asked_before own_plan) own_count
      ∙ ap (λ (os : List ℕ). asked_before (plan v (lengths_of own) os) n) octets-joined
      ∙ asked-joined v own n (omega (arith, count))
      ∙ ap (requests_read v) (take_all n own (omega (arith, count)))
      ∙ requests-read rec xs o ps ok 0 n
      ∙ requests-naks a 0 n
      ∙ take_all (n * a.each) a.entries enough

  pub own-fits : Fits rec xs o.identity own_plan
  own-fits =
      record {
        reads = λ k h. let l : k < n = omega (arith, own_count) in ap (λ (q : List ℕ). (parsed_of v q).refusal) (packet-is k l) ∙ (says k).refusal;
        identity = λ k h. let l : k < n = omega (arith, own_count) in ap (λ (q : List ℕ). (parsed_of v q).identity) (packet-is k l) ∙ (says k).identity;
        within = λ k h r m z.
            let l : k < n = omega (arith, own_count) in
            let w = entry_of a.entries (k * a.each) a.each r (rw (given_is k l) at m) in
            let s = ap (λ (q : List ℕ). (parsed_of v q).scope_start) (packet-is k l) ∙ (says k).scope-start in
            let e = ap (λ (q : List ℕ). (parsed_of v q).scope_end) (packet-is k l) ∙ (says k).scope-end in
            let b = starts_in a.entries ascends (k * a.each) w.0 w.2 in
            let c = ends-in (k * a.each) w.0 w.1 w.2 in
            let f = ap (λ (q : Range). q.start) w.3 in
            let g = ap (λ (q : Range). q.end) w.3 in
            (omega (arith, s, b, f), omega (arith, e, c, g));
        once = rw asked_is (entry-once rec.missing (counted xs rec.count) (sound xs rec ps).whole);
        union = λ x. rw asked_is (entries_cover rec.missing (counted xs rec.count) x);
        metadata = ap metadata_asked asked_is ∙ metadata-entries rec.missing (counted xs rec.count) (sound xs rec ps).whole;
      }

  -- so it is accepted, where it has at most 16 PDUs and the lent list has room
  pub own-accepted : n ≤ most_pdus → (given : ℕ) → 2 * room_for (octets_of (naks a 0 n)) ≤ given → plan_outcome rec xs o.identity own_plan given ≡ accepted []
  own-accepted h given r =
      let total : sum_of own_plan ≡ length (octets_of (naks a 0 n)) = sum-joined own ∙ ap length (sym octets-joined) in
      let few : length (lengths_of own) ≤ most_pdus = omega (arith, own_count) in
      (accepted_exactly rec xs o.identity own_plan given).1 (
        none-join (record_checks rec xs) (proposal_checks o.identity own_plan given) ps (
          ok.identity,
          (
            le-ltb most_pdus (length (lengths_of own)) few,
            (ap not (eq-eqb (sum_of own_plan) (length (octets_of (naks a 0 n))) total), (le-ltb given (2 * room_for (octets_of (naks a 0 n))) r, tt)),
          ),
        ),
        own-fits,
      )

-- the octets of a run of calls whose budgets suffice, parted by their own length fields
module _
    (rec : Reception) (xs : List ℕ) (o : Order) (ps : Passed xs rec) (ok : Allowed rec xs o)
    (cs : List Call) (fit : AllFit o cs)
    (suffice : rounded_up (length (asked rec xs o).entries) (asked rec xs o).each ≤ budgets cs)
  where
    abbrev octets : List ℕ
    octets = octets_by rec xs o 0 cs

    abbrev times : ℕ
    times = min (budgets cs) (rounded_up (length (asked rec xs o).entries - 0) (asked rec xs o).each)

    all : times ≡ rounded_up (length (asked rec xs o).entries) (asked rec xs o).each
    all =
        ap (λ (m : ℕ). min (budgets cs) (rounded_up m (asked rec xs o).each)) {x = length (asked rec xs o).entries - 0} {y = length (asked rec xs o).entries} (omega arith)
        ∙ omega arith

    every : length (asked rec xs o).entries ≤ times * (asked rec xs o).each
    every = rw all (up-enough (length (asked rec xs o).entries) (asked rec xs o).each (each-low o ok.size))

    written : octets ≡ octets_of (naks (asked rec xs o) 0 times)
    written = (ran rec xs o ps ok cs 0 (omega arith) fit).octets

    parts : parted octets ≡ pdus (naks (asked rec xs o) 0 times)
    parts = ap parted written ∙ parted-naks rec xs o ps ok 0 times

    -- is a plan that is accepted, where they are at most 16 PDUs and the lent list has room
    pub calls-accepted : length (parted octets) ≤ most_pdus → (given : ℕ) → 2 * room_for octets ≤ given
        → plan_outcome rec xs o.identity (plan o.form.edition (lengths_of (parted octets)) octets) given ≡ accepted []
    calls-accepted h given r =
        let c : length (parted octets) ≡ times = ap length parts ∙ length-pdus (naks (asked rec xs o) 0 times) ∙ length-naks (asked rec xs o) 0 times in
        let e = own-accepted rec xs o ps ok times every (omega (arith, c)) given (rw written at r) in
        ap (λ (ls : List ℕ). plan_outcome rec xs o.identity (plan o.form.edition ls octets) given) (ap lengths_of parts)
        ∙ ap (λ (os : List ℕ). plan_outcome rec xs o.identity (plan o.form.edition (lengths_of (pdus (naks (asked rec xs o) 0 times))) os) given) written
        ∙ e
