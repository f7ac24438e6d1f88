-- Stepping a reader from where reading left it gives exactly the requests, in order, and then the end, forever.
use Rattle.std.specs.Prelude.{Option, Some, None}
use mathlib.Core.Path.{◌≡◌, refl, sym, ap, ◌∙◌}
use mathlib.Core.Bool.{Bool, true, false}
use mathlib.Core.List.{List, [], ◌∷◌, ◌++◌}
use Prim.Native.Nat.{ℕ, zero, suc, ◌+◌, ◌*◌, ◌-◌, ◌≤◌, ◌<◌}
use native.Mathlib.Nat.{suc-mul, suc-add, zero-add}
use native.Mathlib.Omega.{arith}
use lib.Dec.{eqb}
use lib.ListN.{length, get_or, drop, replicate}
use lib.Seq.{drop-drop}
use borrow.Author.Tests.{eqb-true, lt-ltb, le-ltb}
use Rattle.outcomes.specs.Outcome.{Outcome, accepted}
use Rattle.nak.specs.declared.Edition.{Edition}
use Rattle.nak_parsing.specs.declared.Found.{Found}
use Rattle.nak_parsing.specs.Parser.{field_length_in, requests_at, requests_end, requests_in, packet_requests, read_outcome, parsed_of}
use Rattle.nak_parsing.specs.Step.{at_end, step_outcome, place_after, step_case, steps, each_request, requests_given}
use Rattle.nak_parsing.proofs.Reading.{read_of, field-low, end-high}
use Rattle.nak_parsing.proofs.ParsedOf.{part-of}
use Rattle.nak_parsing.proofs.OctetsBack.{count_in, requests-room, length-requests_in}

-- a reader is at its end, or has a request left
pub at-end : (p : List ℕ) (at : ℕ) → requests_end p - at < 2 * field_length_in p → at_end p at ≡ true
unfolding at_end
at-end p at h = lt-ltb (requests_end p - at) (2 * field_length_in p) h

pub not-at_end : (p : List ℕ) (at : ℕ) → 2 * field_length_in p ≤ requests_end p - at → at_end p at ≡ false
unfolding at_end
not-at_end p at h = le-ltb (requests_end p - at) (2 * field_length_in p) h

-- at its end a reader stays there
pub ended : (p : List ℕ) (at k : ℕ) → requests_end p - at < 2 * field_length_in p → steps p at k ≡ replicate k (accepted [])
unfolding step_outcome place_after
ended p at zero h = refl
ended p at (suc k) h = rw (at-end p at h, ended p at k h)

-- with j requests left it gives them first
pub going : (p : List ℕ) (j at k : ℕ) → requests_end p - at ≡ j * (2 * field_length_in p)
    → steps p at (j + k) ≡ each_request (requests_in (field_length_in p) j (drop at p)) ++ replicate k (accepted [])
unfolding step_outcome place_after
going p zero at k h = rw zero-add (ended p at k (let l = field-low p in omega arith))
going p (suc j) at k h =
    let f = field_length_in p in
    let l = field-low p in
    let e = rw suc-mul at h in
    let n = not-at_end p at (omega arith) in
    rw (suc-add, n, drop-drop f at p, drop-drop (2 * f) at p, going p j (at + 2 * f) k (omega arith))

stepping_if : (v : Edition) (p : List ℕ) (k : ℕ) (t : Bool) → eqb (read_outcome v p).number 0 ≡ t
    → steps p (parsed_of v p).next (length (requests_given v p) + k) ≡ each_request (requests_given v p) ++ replicate k (accepted [])
unfolding packet_requests
stepping_if v p k true e =
    let r = read_of v p (eqb-true (read_outcome v p).number 0 e) in
    let q = part-of v p in
    let f = field_length_in p in
    let j = count_in p in
    rw (q.next, e, length-requests_in f j (drop (requests_at p) p)) (going p j (requests_at p) k (requests-room v p r))
stepping_if v p k false e =
    let q = part-of v p in
    let l = field-low p in
    let h = end-high p in
    rw (q.next, e, zero-add) (ended p (length p) k (omega arith))

-- stepping from where reading left the reader
pub stepping : (v : Edition) (p : List ℕ) (k : ℕ) → steps p (parsed_of v p).next (length (requests_given v p) + k) ≡ each_request (requests_given v p) ++ replicate k (accepted [])
stepping v p k = stepping_if v p k (eqb (read_outcome v p).number 0) refl

-- two steps with one outcome are equal
step : Outcome → Option (ℕ × ℕ)
step o = go o.values
  where
    go : List ℕ → Option (ℕ × ℕ)
    go [] = None
    go (s ∷ vs) = Some (s, (get_or vs 0 0))

step_back : (s : Option (ℕ × ℕ)) → step (step_case s) ≡ s
unfolding step
step_back (Some (s, e)) = refl
step_back None = refl

pub step_injective : (r s : Option (ℕ × ℕ)) → step_case r ≡ step_case s → r ≡ s
step_injective r s e = sym (step_back r) ∙ ap step e ∙ step_back s

-- Two that meet the contract of `next_at`, or of the reader's `step_from`, for one packet and place are equal. Of `parse` that is
-- its contract: what it hands back equals `parsed_of`.
pub one_found :
    (p : List ℕ) (at : ℕ) (r s : Found)
    → (step_case r.step ≡ step_outcome p at) × (r.at ≡ place_after p at)
    → (step_case s.step ≡ step_outcome p at) × (s.at ≡ place_after p at)
    → r ≡ s
one_found p at r s a b =
    ap (λ (z : Option (ℕ × ℕ)). found z r.at) (step_injective r.step s.step (a.0 ∙ sym b.0)) ∙ ap (found s.step) (a.1 ∙ sym b.1)
  where
    found : Option (ℕ × ℕ) → ℕ → Found
    found z n = record { step = z; at = n }
