-- Each PDU of a sequence that is sent is a PDU within the limits: no scope starts after its end, no offset is cut, each request may
-- stand where it does. So the reader accepts it, and gives back identity, form, scope and requests.
use mathlib.Core.Path.{◌≡◌, refl, sym, ap}
use mathlib.Core.Bool.{Bool, true, false, ◌&&◌, not}
use mathlib.Core.List.{List, [], ◌∷◌}
use Prim.Native.Nat.{ℕ, zero, suc, ◌+◌, ◌-◌, ◌≤◌, ◌<◌}
use native.Mathlib.Omega.{arith}
use native.Mathlib.Decide.{dec_lt}
use lib.ListN.{length, get_or, take, drop}
use borrow.Author.Tests.{lt-ltb, le-ltb, ne_eqb, ltb-false}
use Rattle.ranges.specs.Range.{Range, range, Above, Coalesced, last_end}
use Rattle.ranges.specs.Store.{flat, counted, any_above}
use Rattle.outcomes.specs.Outcome.{accepted}
use Rattle.ranges.proofs.Test.{or_false}
use Rattle.nak.specs.declared.Form.{Form}
use Rattle.nak.specs.declared.Identity.{Identity}
use Rattle.octets.specs.Flag.{largest_of}
use Rattle.nak.specs.Pdu.{pdu}
use Rattle.nak.specs.Request.{is_metadata, checks_from, requests_checks}
use Rattle.outcomes.specs.Checks.{NoneOf}
use Rattle.nak.specs.Writer.{nak_outcome}
use Rattle.nak.proofs.Checks.{NakFine, fine_nak}
use Rattle.nak_parsing.specs.Parser.{Says, read_outcome}
use Rattle.nak_parsing.proofs.RoundTrip.{parsed-says, pdu-accepted, read_pdu}
use Rattle.reception.specs.Record.{Passed}
use Rattle.reception.proofs.Sound.{sound}
use Rattle.reception.specs.declared.Reception.{Reception}
use Rattle.ranges.proofs.Last.{ends_le, last-tail}
use Rattle.sequence.specs.Entries.{Asking, asking, entries_of, end_of, scope_start, scope_end, nak_at}
use Rattle.sequence.specs.Sequence.{is_too_large, Allowed, asked}
use Rattle.sequence.specs.declared.Order.{Order}
use Rattle.sequence.proofs.Sizes.{some-each, each-low, pdu-short, small_size}

-- ranges that are not empty and end at p or before
abbrev Within : ℕ → List Range → Type 0
Within p [] = Unit
Within p (r ∷ rs) = (r.start < r.end) × (r.end ≤ p) × Within p rs

above_within : (d p : ℕ) (rs : List Range) → Above d rs → last_end rs ≤ p → Within p rs
above_within d p [] s h = tt
above_within d p (r ∷ rs) s h =
    let k = ends_le d r rs s in
    let l = last-tail d r rs s in
    (s.1, omega arith, above_within (suc r.end) p rs s.2 (omega arith))

within-take : (p n : ℕ) (rs : List Range) → Within p rs → Within p (take n rs)
within-take p zero rs w = tt
within-take p (suc n) [] w = tt
within-take p (suc n) (r ∷ rs) w = (w.0, w.1, within-take p n rs w.2)

within-drop : (p n : ℕ) (rs : List Range) → Within p rs → Within p (drop n rs)
within-drop p zero rs w = w
within-drop p (suc n) [] w = tt
within-drop p (suc n) (r ∷ rs) w = within-drop p n rs w.2

-- such ranges may be asked for anywhere, and none of their numbers is above p
within_fine : (b : Bool) (p : ℕ) (rs : List Range) → Within p rs → NoneOf (checks_from b rs)
within_fine b p [] w = tt
within_fine b p (r ∷ rs) w =
    let h = w.0 in
    (le-ltb r.end r.start (omega arith), (rw (ne_eqb r.start r.end (λ e. omega arith)), within_fine (b && not (is_metadata r)) p rs w.2))

within-numbers : (p top : ℕ) (rs : List Range) → p ≤ top → Within p rs → any_above top (flat rs) ≡ false
within-numbers p top [] h w = refl
within-numbers p top (r ∷ rs) h w = rw (le-ltb top r.start (omega arith), le-ltb top r.end (omega arith)) (within-numbers p top rs h w.2)

-- the entries of one PDU
entries_fine : (m : Bool) (p k f : ℕ) (rs : List Range) → Within p rs → NoneOf (requests_checks (take k (drop f (entries_of m rs))))
entries_fine false p k f rs w = within_fine true p (take k (drop f rs)) (within-take p k (drop f rs) (within-drop p f rs w))
entries_fine true p zero f rs w = tt
entries_fine true p (suc k) zero rs w = (refl, (refl, within_fine false p (take k rs) (within-take p k rs w)))
entries_fine true p (suc k) (suc f) rs w = within_fine true p (take (suc k) (drop f rs)) (within-take p (suc k) (drop f rs) (within-drop p f rs w))

entries-numbers : (m : Bool) (p top k f : ℕ) (rs : List Range) → p ≤ top → Within p rs → any_above top (flat (take k (drop f (entries_of m rs)))) ≡ false
entries-numbers false p top k f rs h w = within-numbers p top (take k (drop f rs)) h (within-take p k (drop f rs) (within-drop p f rs w))
entries-numbers true p top zero f rs h w = refl
entries-numbers true p top (suc k) zero rs h w = rw (le-ltb top 0 (omega arith)) (within-numbers p top (take k rs) h (within-take p k rs w))
entries-numbers true p top (suc k) (suc f) rs h w = within-numbers p top (take (suc k) (drop f rs)) h (within-take p (suc k) (drop f rs) (within-drop p f rs w))

-- entries end in order, none above p
ends-within : (p i : ℕ) (rs : List Range) → Within p rs → (get_or rs i (range 0 0)).end ≤ p
ends-within p i [] w = omega arith
ends-within p zero (r ∷ rs) w = w.1
ends-within p (suc i) (r ∷ rs) w = ends-within p i rs w.2

end-above : (d j : ℕ) (rs : List Range) → Above d rs → j < length rs → d ≤ (get_or rs j (range 0 0)).end
end-above d j [] s u = absurd (omega arith)
end-above d zero (r ∷ rs) s u = omega arith
end-above d (suc j) (r ∷ rs) s u = let i = end-above (suc r.end) j rs s.2 (omega arith) in omega arith

ends_ascend : (d i j : ℕ) (rs : List Range) → Above d rs → i ≤ j → j < length rs → (get_or rs i (range 0 0)).end ≤ (get_or rs j (range 0 0)).end
ends_ascend d i j [] s h u = absurd (omega arith)
ends_ascend d zero zero (r ∷ rs) s h u = omega arith
ends_ascend d zero (suc j) (r ∷ rs) s h u = let k = end-above (suc r.end) j rs s.2 (omega arith) in omega arith
ends_ascend d (suc i) zero (r ∷ rs) s h u = absurd (omega arith)
ends_ascend d (suc i) (suc j) (r ∷ rs) s h u = ends_ascend (suc r.end) i j rs s.2 (omega arith) (omega arith)

entry-within : (m : Bool) (p i : ℕ) (rs : List Range) → Within p rs → end_of (entries_of m rs) i ≤ p
entry-within false p i rs w = ends-within p i rs w
entry-within true p zero rs w = omega arith
entry-within true p (suc i) rs w = ends-within p i rs w

entries_ascend : (m : Bool) (i j : ℕ) (rs : List Range) → Coalesced rs → i ≤ j → j < length (entries_of m rs) → end_of (entries_of m rs) i ≤ end_of (entries_of m rs) j
entries_ascend false i j rs s h u = ends_ascend 0 i j rs s h u
entries_ascend true zero j rs s h u = omega arith
entries_ascend true (suc i) zero rs s h u = absurd (omega arith)
entries_ascend true (suc i) (suc j) rs s h u = ends_ascend 0 i j rs s (omega arith) (omega arith)

-- the scopes of a sequence
module _ (m : Bool) (p k : ℕ) (rs : List Range) (low : 1 ≤ k) (s : Coalesced rs) (w : Within p rs) (g : Form) (d : Identity) where
  abbrev shared : Asking
  shared = asking g d p (entries_of m rs) k

  -- the first starts at 0, each later one where the one before ends, and the last ends at progress
  scope-first : scope_start (entries_of m rs) 0 ≡ 0
  scope-first = refl

  pub scope-joined : (f : ℕ) → f + k < length (entries_of m rs) → scope_end shared f ≡ scope_start (entries_of m rs) (f + k)
  scope-joined f h =
      let e : f + k ≡ suc (f + k - 1) = omega arith in
      rw (lt-ltb (f + k) (length (entries_of m rs)) h) (ap (scope_start (entries_of m rs)) (sym e))

  pub scope-last : (f : ℕ) → length (entries_of m rs) ≤ f + k → scope_end shared f ≡ p
  scope-last f h = rw (le-ltb (f + k) (length (entries_of m rs)) h)

  -- none starts after its end, and neither end is above progress
  start-within : (f : ℕ) → scope_start (entries_of m rs) f ≤ p
  start-within zero = omega (arith, scope-first)
  start-within (suc f) = entry-within m p f rs w

  starts-ascend : (f n : ℕ) → f ≤ n → n ≤ length (entries_of m rs) → scope_start (entries_of m rs) f ≤ scope_start (entries_of m rs) n
  starts-ascend zero n h u = omega (arith, scope-first)
  starts-ascend (suc f) zero h u = absurd (omega arith)
  starts-ascend (suc f) (suc n) h u = entries_ascend m f n rs s (omega arith) (omega arith)

  end-within : (f : ℕ) → scope_end shared f ≤ p
  end-within f = go (dec_lt (f + k) (length (entries_of m rs)))
    where
      go : Dec (f + k < length (entries_of m rs)) → scope_end shared f ≤ p
      go (yes h) = let e = start-within (f + k) in omega (arith, scope-joined f h)
      go (no h) = omega (arith, scope-last f (omega arith))

  pub scope-ordered : (f : ℕ) → scope_start (entries_of m rs) f ≤ scope_end shared f
  scope-ordered f = go (dec_lt (f + k) (length (entries_of m rs)))
    where
      go : Dec (f + k < length (entries_of m rs)) → scope_start (entries_of m rs) f ≤ scope_end shared f
      go (yes h) = omega (arith, scope-joined f h, starts-ascend f (f + k) (omega arith) (omega arith))
      go (no h) = omega (arith, scope-last f (omega arith), start-within f)

  numbers-fine : (f : ℕ) → p ≤ largest_of g.flag → any_above (largest_of g.flag) (scope_start (entries_of m rs) f ∷ scope_end shared f ∷ flat (take k (drop f (entries_of m rs)))) ≡ false
  numbers-fine f h =
      let a = start-within f in
      let b = end-within f in
      rw (le-ltb (largest_of g.flag) (scope_start (entries_of m rs) f) (omega arith), le-ltb (largest_of g.flag) (scope_end shared f) (omega arith))
      (entries-numbers m p (largest_of g.flag) k f rs h w)

-- what check 7 leaves
small-progress : (rec : Reception) (xs : List ℕ) (g : Form) → is_too_large rec xs g ≡ false → rec.progress ≤ largest_of g.flag
unfolding is_too_large
small-progress rec xs g e = ltb-false (largest_of g.flag) rec.progress (or_false _ _ e).0

module _ (rec : Reception) (xs : List ℕ) (o : Order) (ps : Passed xs rec) (ok : Allowed rec xs o) where
  abbrev a : Asking
  a = asked rec xs o

  whole : Coalesced (counted xs rec.count)
  whole = (sound xs rec ps).whole

  within : Within rec.progress (counted xs rec.count)
  within = above_within 0 rec.progress (counted xs rec.count) whole (sound xs rec ps).above

  pub scope-next : (f : ℕ) → f + a.each < length a.entries → scope_end a f ≡ scope_start a.entries (f + a.each)
  scope-next = scope-joined rec.missing rec.progress a.each (counted xs rec.count) (each-low o ok.size) whole within o.form o.identity

  pub scope-end : (f : ℕ) → length a.entries ≤ f + a.each → scope_end a f ≡ rec.progress
  scope-end = scope-last rec.missing rec.progress a.each (counted xs rec.count) (each-low o ok.size) whole within o.form o.identity

  -- every PDU of the sequence is within the limits
  pub pdu_fine : (f : ℕ) → NakFine (nak_at a f)
  pdu_fine f =
      let l = small_size o ok.size in
      let q = pdu-short a o.largest f refl (some-each o ok.size) in
      record {
        identity = ok.identity;
        reserved = ok.reserved;
        scope = scope-ordered rec.missing rec.progress a.each (counted xs rec.count) (each-low o ok.size) whole within o.form o.identity f;
        requests = entries_fine rec.missing rec.progress a.each f (counted xs rec.count) within;
        numbers = numbers-fine rec.missing rec.progress a.each (counted xs rec.count) (each-low o ok.size) whole within o.form o.identity f
            (small-progress rec xs o.form ok.numbers);
        size = omega arith;
      }

  -- so the reader accepts it and gives back what it says
  pub pdu_readable : (f : ℕ) → (read_outcome o.form.edition (pdu (nak_at a f)) ≡ accepted []) × Says (pdu (nak_at a f)) (nak_at a f)
  pdu_readable f =
      let n = nak_at a f in
      let e : nak_outcome n ≡ accepted [] = fine_nak n (pdu_fine f) in
      let r = pdu-accepted n e in
      (r, parsed-says (pdu n) n r (read_pdu n e))
