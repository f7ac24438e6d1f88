-- What a traced example of document 01 does, and what comes of it by the definitions that the calls' contracts cite.
use Rattle.std.specs.Prelude.{ℕ, ◌*◌, ◌-◌, false, List, [], ◌∷◌, ◌++◌, length, replicate}
use Rattle.ranges.specs.Range.{Range}
use Rattle.ranges.specs.Store.{flat}
use Rattle.outcomes.specs.Outcome.{Outcome}
use Rattle.ranges.specs.declared.Width.{Width}
use Rattle.ranges.specs.declared.Width.TheVariants.{Wide}
use Rattle.octets.specs.declared.LargeFileFlag.TheVariants.{Normal}
use Rattle.segment_store.specs.declared.Store.{Store}
use Rattle.segment_store.specs.Add.{add_outcome, add_list}
use Rattle.segment_store.specs.Remove.{remove_outcome, remove_list}
use Rattle.segment_store.specs.Coalesce.{coalesce_outcome, coalesce_list}
use Rattle.reception.specs.History.{Event, State, fresh, outcome, step, run}
use Rattle.nak.specs.declared.Edition.TheVariants.{Newer}
use Rattle.nak.specs.declared.Form.{Form}
use Rattle.nak.specs.declared.Identity.{Identity}
use Rattle.nak.specs.Pdu.{Nak}
use Rattle.sequence.specs.Entries.{Asking, asking, naks}
use Rattle.sequence.specs.Sequence.{order, pdu_count}

pub data Example : Type 0 where
  -- A call on a store of this width and capacity that holds these ranges.
  Add : Width → ℕ → List Range → ℕ → ℕ → Example
  Remove : Width → ℕ → List Range → ℕ → ℕ → Example
  Coalesce : Width → ℕ → List Range → Example
  -- Events on a fresh wide reception of this capacity.
  Events : ℕ → List Event → Example
  -- The NAK sequence for these ranges and this progress, metadata known, with so many requests in a PDU: one call with a budget of 16.
  Sequence : ℕ → List Range → ℕ → Example

-- What each call answered; the whole lent list afterwards, or of a sequence the start and end of each scope; progress.
pub record Came : Type 0 where
  pub outcomes : List Outcome
  pub list : List ℕ
  pub progress : ℕ

abbrev pub came : List Outcome → List ℕ → ℕ → Came
came os xs p = record { outcomes = os; list = xs; progress = p }

-- A lent list of this capacity whose first pairs are these ranges.
abbrev pub holding : ℕ → List Range → List ℕ
holding cap rs = flat rs ++ replicate {A = ℕ} (2 * (cap - length rs)) 0

abbrev pub store_of : Width → List Range → Store
store_of w rs = record { count = length rs; width = w }

-- What the events answer, one after the other.
abbrev pub outcomes : State → List Event → List Outcome
outcomes s [] = []
outcomes s (e ∷ es) = outcome s e ∷ outcomes (step s e) es

abbrev pub scopes : List Nak → List ℕ
scopes [] = []
scopes (n ∷ ns) = n.scope.start ∷ n.scope.end ∷ scopes ns

-- Source 1, number 7, destination 2, of one octet each; no scope depends on it.
abbrev pub any_identity : Identity
any_identity = record { entity_length = 1; number_length = 1; source = 1; number = 7; destination = 2 }

-- The newer edition, the large file flag normal, no trailer; no scope depends on it.
abbrev pub any_form : Form
any_form = record { edition = Newer; flag = Normal; crc = false }

-- The PDUs of a call from cursor 0 on with a budget of 16; the largest PDU has its say in the number of requests alone.
abbrev pub sent_by : Asking → List Nak
sent_by a = naks a 0 (pdu_count a (order any_identity any_form 0 0 16))

abbrev pub result : Example → Came
result (Add w cap rs a b) = came (add_outcome (holding cap rs) (store_of w rs) a b ∷ []) (add_list (holding cap rs) (store_of w rs) a b) 0
result (Remove w cap rs a b) = came (remove_outcome (holding cap rs) (store_of w rs) a b ∷ []) (remove_list (holding cap rs) (store_of w rs) a b) 0
result (Coalesce w cap rs) = came (coalesce_outcome (holding cap rs) (store_of w rs) ∷ []) (coalesce_list (holding cap rs) (store_of w rs)) 0
result (Events cap es) =
    came (outcomes (fresh Wide (holding cap [])) es) (run (fresh Wide (holding cap [])) es).list (run (fresh Wide (holding cap [])) es).rec.progress
result (Sequence k rs p) = came [] (scopes (sent_by (asking any_form any_identity p rs k))) p
