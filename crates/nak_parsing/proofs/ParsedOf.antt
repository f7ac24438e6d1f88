-- What is handed back of a packet, accepted or refused; the places of its requests.
use mathlib.Core.Path.{◌≡◌, refl, sym, ap, ◌∙◌}
use mathlib.Core.Bool.{Bool, true, false}
use mathlib.Core.List.{List, []}
use Prim.Native.Nat.{ℕ, ◌+◌, ◌-◌, ◌≤◌, ◌<◌}
use native.Mathlib.Omega.{arith}
use lib.Dec.{eqb}
use lib.ListN.{length, take, drop}
use borrow.Author.Tests.{eqb-true, eqb-false, ne_eqb, lt-ltb}
use denote.Ref.{Bor}
use Rattle.std.specs.Prelude.{Result, Ok, Err, IfOk}
use Rattle.outcomes.specs.Outcome.{accepted, lent}
use Rattle.ranges.specs.Range.{Range, range}
use Rattle.nak.specs.declared.Edition.{Edition}
use Rattle.nak.specs.declared.Form.{Form}
use Rattle.nak.specs.declared.Identity.{Identity}
use Rattle.nak_parsing.specs.declared.Said.{Said}
use Rattle.outcomes.specs.declared.Refusal.TheVariants as refusal
use Rattle.outcomes.specs.Refusal.{refusing}
use Rattle.outcomes.specs.declared.Refusal.{Refusal}
use Rattle.outcomes.specs.Answered.{answered}
use Rattle.outcomes.proofs.Refusals.{refuses, no_refusal, one-refusal}
use Rattle.nak_parsing.specs.Parser.{packet_form, packet_identity, scope_in, requests_at, requests_end, read_outcome, said_in, nothing_of, parsed_with, accepted_parsed, refused_parsed, parsed_of}
use Rattle.nak_parsing.specs.Parser.{requests_part, requests_ptr}
use Rattle.nak_parsing.proofs.Reading.{read_of}
use Rattle.nak_parsing.proofs.OctetsBack.{requests-in}

-- what a packet of this identity, form and scope says, its requests from here to there
abbrev pub said_as : Identity → Form → Range → ℕ → ℕ → Said
said_as d g s from to = record { identity = d; form = g; scope_start = s.start; scope_end = s.end; from = from; to = to }

pub parsed-accepted : (v : Edition) (p : List ℕ) → read_outcome v p ≡ accepted [] → parsed_of v p ≡ accepted_parsed v p
unfolding parsed_of
parsed-accepted v p e = rw e

pub parsed-refused : (v : Edition) (p : List ℕ) → ((read_outcome v p).number ≡ 0 → ⊥) → parsed_of v p ≡ refused_parsed v (read_outcome v p) (length p)
unfolding parsed_of
parsed-refused v p h = rw (ne_eqb (read_outcome v p).number 0 h)

-- by the refusal
pub parsed_by : (v : Edition) (p : List ℕ) (r : Refusal) → refusing r ≡ read_outcome v p → refused_parsed v (refusing r) (length p) ≡ parsed_of v p
unfolding parsed_of
parsed_by v p r e = rw (← e, refuses r)

-- of a packet below four octets
pub short : (v : Edition) (p : List ℕ) → length p < 4 → (refusing refusal.LengthMismatch) ≡ read_outcome v p
unfolding read_outcome
short v p h = rw (lt-ltb (length p) 4 h)

-- and of a packet that is accepted
pub parsed_as : (v : Edition) (p : List ℕ) (s : Said) → accepted [] ≡ read_outcome v p → s ≡ said_in v p → parsed_with s ≡ parsed_of v p
unfolding parsed_of accepted_parsed said_in
parsed_as v p s e h = rw (← e, h)

-- the values that the code finds are those of the definition
pub is_said :
    (v : Edition) (p : List ℕ) {d : Identity} {g : Form} {a b from to : ℕ}
    → d ≡ packet_identity p
    → g ≡ packet_form v p
    → range a b ≡ scope_in p
    → from ≡ requests_at p
    → to ≡ requests_end p
    → said_as d g (range a b) from to ≡ said_in v p
unfolding said_in
is_said v p d g s f e =
    let start = ap (λ (r : Range). r.start) s in
    let end = ap (λ (r : Range). r.end) s in
    rw (d, g, start, end, f, e)

-- where the part of the requests starts and ends
pub record Part (v : Edition) (p : List ℕ) : Type 0 where
  pub from : (parsed_of v p).from ≡ lent (read_outcome v p) (requests_at p) 0
  pub next : (parsed_of v p).next ≡ lent (read_outcome v p) (requests_at p) (length p)
  pub ordered : (parsed_of v p).from ≤ (parsed_of v p).to
  pub inside : (parsed_of v p).to ≤ length p
  pub octets : take ((parsed_of v p).to - (parsed_of v p).from) (drop (parsed_of v p).from p) ≡ requests_part v p

part_if : (v : Edition) (p : List ℕ) (t : Bool) → eqb (read_outcome v p).number 0 ≡ t → Part v p
unfolding accepted_parsed
part_if v p true e =
    let r = read_of v p (eqb-true (read_outcome v p).number 0 e) in
    let a = parsed-accepted v p r.outcome in
    let i = requests-in v p r in
    record { from = rw (a, e); next = rw (a, e); ordered = rw a i.0; inside = rw a i.1; octets = rw (a, e) }
part_if v p false e =
    let a = parsed-refused v p (eqb-false (read_outcome v p).number 0 e) in
    record { from = rw (a, e); next = rw (a, e); ordered = rw a (omega arith); inside = rw a (omega arith); octets = rw (a, e) }

pub part-of : (v : Edition) (p : List ℕ) → Part v p
part-of v p = part_if v p (eqb (read_outcome v p).number 0) refl

-- and where it lies in the caller's memory
pub part_ptr : (v : Edition) (p : Bor (List ℕ)) → (p.ref_ptr.0, (parsed_of v p.now).from + p.ref_ptr.1) ≡ requests_ptr v p
part_ptr v p = ap (λ (n : ℕ). (p.ref_ptr.0, n + p.ref_ptr.1)) (part-of v p.now).from

-- The statement of `read_pdu` allows one answer: what an accepted packet says is given whole.
pub one-said :
    (v : Edition) (p : List ℕ) (r s : Result Said Refusal)
    → (answered nothing_of r ≡ read_outcome v p) × IfOk r (λ x. x ≡ said_in v p)
    → (answered nothing_of s ≡ read_outcome v p) × IfOk s (λ x. x ≡ said_in v p)
    → r ≡ s
one-said v p (Ok a) (Ok b) x y = ap Ok (x.1 ∙ sym y.1)
one-said v p (Ok a) (Err t) x y = absurd (no_refusal t (y.0 ∙ sym x.0))
one-said v p (Err t) (Ok b) x y = absurd (no_refusal t (x.0 ∙ sym y.0))
one-said v p (Err t) (Err u) x y = ap Err (one-refusal t u (x.0 ∙ sym y.0))
