-- PDUs back to back are parted by their own length fields into the PDUs that were written. The reader accepts each, and gives back the
-- identity, the form and the requests that it was written with.
use mathlib.Core.Path.{◌≡◌, refl, sym, ap, ap₂, ◌∙◌}
use mathlib.Core.List.{List, [], ◌∷◌, ◌++◌}
use Prim.Native.Nat.{ℕ, zero, suc, ◌+◌, ◌*◌, ◌-◌, ◌≤◌, ◌<◌}
use native.Mathlib.Nat.{zero-mul, one-mul, suc-mul}
use native.Mathlib.Omega.{arith}
use lib.ListN.{length, take, drop, length-append, length-drop, get_or-append}
use lib.Seq.{drop-drop, take-add, take_at, drop_at, take-append-le, drop-append-le}
use Rattle.ranges.specs.Range.{Range}
use Rattle.outcomes.specs.Outcome.{Outcome, accepted}
use Rattle.octets.specs.Octets.{number}
use Rattle.nak.specs.Pdu.{Nak, pdu}
use Rattle.nak.specs.declared.Edition.{Edition}
use Rattle.nak_parsing.specs.Parser.{octet_at, entity_length_in, number_length_in, header_length_in, length_field, parsed_of, read_outcome}
use Rattle.nak_parsing.specs.Step.{requests_given}
use Rattle.nak_parsing.proofs.Reading.{read_of}
use Rattle.reception.specs.declared.Reception.{Reception}
use Rattle.reception.specs.Record.{Passed}
use Rattle.sequence.specs.Entries.{Asking, rounded_up, scope_start, nak_at, naks, octets_of}
use Rattle.sequence.specs.Sequence.{Allowed, asked}
use Rattle.sequence.specs.declared.Order.{Order}
use Rattle.sequence.specs.Parted.{said_length, parted_by, parted, joined, AllRead, ScopesJoin, requests_read}
use Rattle.sequence.proofs.Sizes.{some-each, each-low, pdu-short}
use Rattle.sequence.proofs.Readable.{scope-next, scope-end, pdu_readable}
use Rattle.sequence.proofs.Together.{up-enough, begins_before}

-- what the header says does not depend on the octets behind the packet
module _ (p os : List ℕ) (h : 4 ≤ length p) where
  same-octet : octet_at (p ++ os) 3 ≡ octet_at p 3
  same-octet = get_or-append p os 0 3 h

  same-header : header_length_in (p ++ os) ≡ header_length_in p
  unfolding header_length_in entity_length_in number_length_in
  same-header = rw same-octet

  same-field : length_field (p ++ os) ≡ length_field p
  unfolding length_field
  same-field =
      ap (λ (l : List ℕ). number (take 2 l)) (drop-append-le 1 p os (omega arith))
      ∙ ap number (take-append-le 2 (drop 1 p) os (let d = length-drop 1 p in omega arith))

  same_length : said_length (p ++ os) ≡ said_length p
  same_length = ap₂ ◌+◌ same-header same-field

-- an accepted packet is as long as it says
said : (v : Edition) (p : List ℕ) → read_outcome v p ≡ accepted [] → (4 ≤ length p) × (said_length p ≡ length p)
said v p e = let s = (read_of v p (ap (λ (o : Outcome). o.number) e)).shape in (s.enough, sym s.total)

one-part : (m : ℕ) (os : List ℕ) → 1 ≤ length os → parted_by (suc m) os ≡ take (said_length os) os ∷ parted_by m (drop (said_length os) os)
one-part m [] h = absurd (omega arith)
one-part m (x ∷ os) h = refl

no_part : (m : ℕ) → parted_by m [] ≡ []
no_part zero = refl
no_part (suc m) = refl

-- the octets of some NAKs, one list each
abbrev pub pdus : List Nak → List (List ℕ)
pdus [] = []
pdus (n ∷ ns) = pdu n ∷ pdus ns

pub length-pdus : (ns : List Nak) → length (pdus ns) ≡ length ns
length-pdus [] = refl
length-pdus (n ∷ ns) = ap suc (length-pdus ns)

pub joined-pdus : (ns : List Nak) → joined (pdus ns) ≡ octets_of ns
joined-pdus [] = refl
joined-pdus (n ∷ ns) = ap (λ (l : List ℕ). pdu n ++ l) (joined-pdus ns)

-- the requests of some NAKs, in order
abbrev pub requests_of_all : List Nak → List Range
requests_of_all [] = []
requests_of_all (n ∷ ns) = n.requests ++ requests_of_all ns

-- those of n PDUs from entry f on are n times k entries
pub requests-naks : (a : Asking) (f n : ℕ) → requests_of_all (naks a f n) ≡ take (n * a.each) (drop f a.entries)
requests-naks a f zero = let e = zero-mul a.each in rw e
requests-naks a f (suc n) =
    let k : ℕ = a.each in
    let e : suc n * k ≡ k + n * k = let s = suc-mul n k in omega arith in
    ap (λ (l : List Range). take k (drop f a.entries) ++ l) (requests-naks a (f + k) n ∙ ap (take (n * k)) (sym (drop-drop k f a.entries)))
    ∙ sym (ap (λ (m : ℕ). take m (drop f a.entries)) e ∙ take-add k (n * k) (drop f a.entries))

-- the PDUs of a sound record and an order that is allowed
module _
    (rec : Reception) (xs : List ℕ) (o : Order)
    (ps : Passed xs rec)
    (ok : Allowed rec xs o)
  where
    abbrev a : Asking
    a = asked rec xs o

    read : (f : ℕ) → read_outcome o.form.edition (pdu (nak_at a f)) ≡ accepted []
    read f = (pdu_readable rec xs o ps ok f).0

    parted-in : (f n m : ℕ) → length (octets_of (naks a f n)) ≤ m → parted_by m (octets_of (naks a f n)) ≡ pdus (naks a f n)
    parted-in f zero m h = no_part m
    parted-in f (suc n) m h =
        let p : List ℕ = pdu (nak_at a f) in
        let s = said o.form.edition p (read f) in
        let l = length-append p (octets_of (naks a (f + a.each) n)) in
        go m h s.0 s.1 l (parted-in (f + a.each) n)
      where
        rest : List ℕ
        rest = octets_of (naks a (f + a.each) n)

        go : (m : ℕ) → length (pdu (nak_at a f) ++ rest) ≤ m → 4 ≤ length (pdu (nak_at a f)) → said_length (pdu (nak_at a f)) ≡ length (pdu (nak_at a f))
            → length (pdu (nak_at a f) ++ rest) ≡ length (pdu (nak_at a f)) + length rest
            → ((i : ℕ) → length rest ≤ i → parted_by i rest ≡ pdus (naks a (f + a.each) n))
            → parted_by m (pdu (nak_at a f) ++ rest) ≡ pdu (nak_at a f) ∷ pdus (naks a (f + a.each) n)
        go zero h u e l i = absurd (omega arith)
        go (suc m) h u e l i =
            let p : List ℕ = pdu (nak_at a f) in
            let t : said_length (p ++ rest) ≡ length p = same_length p rest u ∙ e in
            one-part m (p ++ rest) (omega arith)
            ∙ ap₂ ◌∷◌
            (ap (λ (z : ℕ). take z (p ++ rest)) t ∙ take_at p rest (length p) refl)
            (ap (λ (z : ℕ). parted_by m (drop z (p ++ rest))) t ∙ ap (parted_by m) (drop_at p rest (length p) refl) ∙ i m (omega arith))

    pub parted-naks : (f n : ℕ) → parted (octets_of (naks a f n)) ≡ pdus (naks a f n)
    parted-naks f n = parted-in f n (length (octets_of (naks a f n))) (omega arith)

    -- the reader accepts each
    pub all_read : (f n : ℕ) → AllRead o.largest o.identity o.form (pdus (naks a f n))
    all_read f zero = tt
    all_read f (suc n) =
        let s = (pdu_readable rec xs o ps ok f).1 in
        (s.refusal, pdu-short a o.largest f refl (some-each o ok.size), s.identity, s.form, all_read (f + a.each) n)

    -- and gives its requests
    given : (f : ℕ) → requests_given o.form.edition (pdu (nak_at a f)) ≡ (nak_at a f).requests
    given f = let s = pdu_readable rec xs o ps ok f in rw s.0 s.1.requests

    pub requests-read : (f n : ℕ) → requests_read o.form.edition (pdus (naks a f n)) ≡ requests_of_all (naks a f n)
    requests-read f zero = refl
    requests-read f (suc n) = ap₂ ◌++◌ (given f) (requests-read (f + a.each) n)

    -- the scopes of n + 1 PDUs that hold the entries from f on join up to progress
    joins : (n f : ℕ) → f + n * a.each < length a.entries → length a.entries ≤ f + suc n * a.each
        → ScopesJoin o.form.edition (scope_start a.entries f) rec.progress (pdus (naks a f (suc n)))
    joins zero f l u =
        let s = (pdu_readable rec xs o ps ok f).1 in
        let m = one-mul a.each in
        (s.scope-start, s.scope-end ∙ scope-end rec xs o ps ok f (omega arith))
    joins (suc n) f l u =
        let s = (pdu_readable rec xs o ps ok f).1 in
        let k : ℕ = a.each in
        let m = suc-mul n k in
        let v = suc-mul (suc n) k in
        let e : (parsed_of o.form.edition (pdu (nak_at a f))).scope_end ≡ scope_start a.entries (f + k) = s.scope-end ∙ scope-next rec xs o ps ok f (omega arith) in
        (s.scope-start, rw e (joins n (f + k) (omega arith) (omega arith)))

    pub scopes-join : (n : ℕ) → n ≡ rounded_up (length a.entries) a.each → 1 ≤ length a.entries → ScopesJoin o.form.edition 0 rec.progress (pdus (naks a 0 n))
    scopes-join n e h = go n e (up-enough (length a.entries) a.each (each-low o ok.size))
      where
        go : (n : ℕ) → n ≡ rounded_up (length a.entries) a.each → length a.entries ≤ rounded_up (length a.entries) a.each * a.each
            → ScopesJoin o.form.edition 0 rec.progress (pdus (naks a 0 n))
        go zero e u = let z = zero-mul a.each in absurd (omega (arith, rw (← e) at u))
        go (suc n) e u =
            let r : rounded_up (length a.entries - 0) a.each ≡ suc n =
            ap (λ (m : ℕ). rounded_up m a.each) {x = length a.entries - 0} {y = length a.entries} (omega arith) ∙ sym e in
            let b = begins_before (length a.entries) 0 a.each n (each-low o ok.size) (omega (arith, r)) in
            joins n 0 b (omega (arith, rw (← e) at u))
