-- The entries of a sequence, and the PDU from an entry on (document 01, "The sequence").
use Rattle.std.specs.Prelude.{ℕ, zero, suc, ◌+◌, ◌-◌, ◌/◌, Bool, cond, List, [], ◌∷◌, ◌++◌, length, get_or, take, drop, ltb}
use Rattle.ranges.specs.Range.{Range, range}
use Rattle.ranges.specs.Store.{counted}
use Rattle.reception.specs.declared.Reception.{Reception}
use Rattle.nak.specs.declared.Form.{Form}
use Rattle.nak.specs.declared.Identity.{Identity}
use Rattle.nak.specs.Pdu.{Nak, saying, pdu}

-- Entries: (0, 0) if metadata is missing, then the list; E of them.
abbrev pub entries_of : Bool → List Range → List Range
entries_of missing rs = cond missing (range 0 0 ∷ []) [] ++ rs

-- A quotient rounded up.
abbrev pub rounded_up : ℕ → ℕ → ℕ
rounded_up a b = (a + (b - 1)) / b

-- What all PDUs of a sequence share: the form, the identity, progress, the entries, and k.
pub record Asking : Type 0 where
  pub form : Form
  pub identity : Identity
  pub progress : ℕ
  pub entries : List Range
  pub each : ℕ

abbrev pub asking : Form → Identity → ℕ → List Range → ℕ → Asking
asking g d p es k = record { form = g; identity = d; progress = p; entries = es; each = k }

-- The entries of a record and its list, and what the PDUs that ask for them share.
abbrev pub entries_in : Reception → List ℕ → List Range
entries_in rec xs = entries_of rec.missing (counted xs rec.count)

abbrev pub asking_for : Reception → List ℕ → Form → Identity → ℕ → Asking
asking_for rec xs g d k = asking g d rec.progress (entries_in rec xs) k

-- The end of entry i.
abbrev pub end_of : List Range → ℕ → ℕ
end_of es i = (get_or es i (range 0 0)).end

-- In a PDU from entry f on, scope start is 0 at f = 0, else the end of entry f − 1.
abbrev pub scope_start : List Range → ℕ → ℕ
scope_start es zero = 0
scope_start es (suc f) = end_of es f

-- Scope end is the end of the PDU's last entry, or progress in the PDU holding the last entry.
abbrev pub scope_end_of : List Range → ℕ → ℕ → ℕ → ℕ
scope_end_of es progress k f = cond (ltb (f + k) (length es)) (end_of es (f + k - 1)) progress

abbrev pub scope_end : Asking → ℕ → ℕ
scope_end a f = scope_end_of a.entries a.progress a.each f

-- The PDU from entry f on: at most k entries.
abbrev pub nak_at : Asking → ℕ → Nak
nak_at a f = saying a.form a.identity (scope_start a.entries f) (scope_end a f) (take a.each (drop f a.entries))

-- n PDUs, the first from entry f on, each of the others from k entries further on.
abbrev pub naks : Asking → ℕ → ℕ → List Nak
naks a f zero = []
naks a f (suc n) = nak_at a f ∷ naks a (f + a.each) n

-- PDUs back to back.
abbrev pub octets_of : List Nak → List ℕ
octets_of [] = []
octets_of (n ∷ ns) = pdu n ++ octets_of ns
