-- PDUs back to back, parted by their own length fields, and what the reader reads in them.
use Rattle.std.specs.Prelude.{ℕ, zero, suc, ◌+◌, ◌≤◌, ◌≡◌, List, [], ◌∷◌, ◌++◌, length, take, drop}
use Rattle.ranges.specs.Range.{Range}
use Rattle.nak.specs.declared.Edition.{Edition}
use Rattle.nak.specs.declared.Form.{Form}
use Rattle.nak.specs.declared.Identity.{Identity}
use Rattle.nak_parsing.specs.Parser.{header_length_in, length_field, parsed_of}
use Rattle.nak_parsing.specs.Step.{requests_given}

-- How long the PDU at the front says that it is: H plus the length field.
abbrev pub said_length : List ℕ → ℕ
said_length os = header_length_in os + length_field os

-- The PDUs at the front, at most n.
abbrev pub parted_by : ℕ → List ℕ → List (List ℕ)
parted_by zero os = []
parted_by (suc n) [] = []
parted_by (suc n) (x ∷ os) = take (said_length (x ∷ os)) (x ∷ os) ∷ parted_by n (drop (said_length (x ∷ os)) (x ∷ os))

-- All of them; there are no more than octets.
abbrev pub parted : List ℕ → List (List ℕ)
parted os = parted_by (length os) os

-- The packets joined again.
abbrev pub joined : List (List ℕ) → List ℕ
joined [] = []
joined (p ∷ ps) = p ++ joined ps

-- Each packet is accepted by the reader on a link of the form's edition, is at most so long, and carries this identity and this form.
abbrev pub AllRead : ℕ → Identity → Form → List (List ℕ) → Type 0
AllRead largest d g [] = Unit
AllRead largest d g (p ∷ ps) =
    ((parsed_of g.edition p).refusal ≡ 0) × (length p ≤ largest) × ((parsed_of g.edition p).identity ≡ d) × ((parsed_of g.edition p).form ≡ g) × AllRead largest d g ps

-- The scopes that the reader gives of each packet join: the first starts at s, each later one where the one before ends, and the
-- last ends at e.
abbrev pub ScopesJoin : Edition → ℕ → ℕ → List (List ℕ) → Type 0
ScopesJoin v s e [] = s ≡ e
ScopesJoin v s e (p ∷ ps) = ((parsed_of v p).scope_start ≡ s) × ScopesJoin v (parsed_of v p).scope_end e ps

-- The requests that a reader gives of each packet, one packet after the other.
abbrev pub requests_read : Edition → List (List ℕ) → List Range
requests_read v [] = []
requests_read v (p ∷ ps) = requests_given v p ++ requests_read v ps
