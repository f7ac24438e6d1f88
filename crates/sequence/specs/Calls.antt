-- A run of calls (document 01, "The sequence"): calls on an unchanged record and list, with all else but budget and buffer the same,
-- the first from cursor 0 and each later one from the cursor the last one gave.
use Rattle.std.specs.Prelude.{ℕ, zero, ◌+◌, ◌*◌, ◌≤◌, List, [], ◌∷◌, ◌++◌, length, get_or, take}
use Rattle.outcomes.specs.Outcome.{Outcome, lent}
use Rattle.reception.specs.declared.Reception.{Reception}
use Rattle.sequence.specs.Sequence.{order, largest_budget, asked, sent, sequence_outcome, sequence_buffer}
use Rattle.sequence.specs.declared.Order.{Order}

-- What a call of the run has of its own: a PDU budget and a buffer.
pub record Call : Type 0 where
  pub budget : ℕ
  pub buffer : List ℕ

-- The budget is at most 16, and the buffer has room for as many of the largest PDUs.
abbrev pub Fits : Order → Call → Type 0
Fits o c = (c.budget ≤ largest_budget) × (c.budget * o.largest ≤ length c.buffer)

abbrev pub AllFit : Order → List Call → Type 0
AllFit o [] = Unit
AllFit o (c ∷ cs) = Fits o c × AllFit o cs

-- The call's order: identity, form and largest PDU are those of the run.
abbrev pub calling : Order → ℕ → Call → Order
calling o j c = order o.identity o.form o.largest j c.budget

-- What the call from cursor j answers, and what its buffer holds afterwards.
abbrev pub answered : Reception → List ℕ → Order → ℕ → Call → Outcome
answered rec xs o j c = sequence_outcome rec xs (calling o j c) (length c.buffer)

abbrev pub buffer_after : Reception → List ℕ → Order → ℕ → Call → List ℕ
buffer_after rec xs o j c = sequence_buffer rec xs (calling o j c) c.buffer

-- What an answer reports: the number of PDUs, the octets written, the new cursor. A refusal reports nothing, and the cursor stays j.
abbrev pub pdus_in : Outcome → ℕ
pdus_in p = lent p (get_or p.values 0 0) 0

abbrev pub octets_in : Outcome → ℕ
octets_in p = lent p (get_or p.values 1 0) 0

abbrev pub cursor_in : ℕ → Outcome → ℕ
cursor_in j p = lent p (get_or p.values 2 0) j

-- The cursor behind a run of calls from cursor j on.
abbrev pub cursor_after : Reception → List ℕ → Order → ℕ → List Call → ℕ
cursor_after rec xs o j [] = j
cursor_after rec xs o j (c ∷ cs) = cursor_after rec xs o (cursor_in j (answered rec xs o j c)) cs

-- The PDUs that the answers report, added up.
abbrev pub pdus_by : Reception → List ℕ → Order → ℕ → List Call → ℕ
pdus_by rec xs o j [] = zero
pdus_by rec xs o j (c ∷ cs) = pdus_in (answered rec xs o j c) + pdus_by rec xs o (cursor_in j (answered rec xs o j c)) cs

-- The octets that the answers report, in order: so many from the front of each buffer.
abbrev pub octets_by : Reception → List ℕ → Order → ℕ → List Call → List ℕ
octets_by rec xs o j [] = []
octets_by rec xs o j (c ∷ cs) =
    take (octets_in (answered rec xs o j c)) (buffer_after rec xs o j c) ++ octets_by rec xs o (cursor_in j (answered rec xs o j c)) cs

-- The budgets of all calls, added up.
abbrev pub budgets : List Call → ℕ
budgets [] = zero
budgets (c ∷ cs) = c.budget + budgets cs

-- The octets of the whole sequence, as defined from cursor 0: what a budget of one PDU for each entry writes.
abbrev pub whole_sequence : Reception → List ℕ → Order → List ℕ
whole_sequence rec xs o = sent (asked rec xs o) (order o.identity o.form o.largest 0 (length (asked rec xs o).entries))
