-- A transfer closes, said of what arrives: the data for every request of one full sequence, whole or in parts.
use mathlib.Core.Path.{◌≡◌, sym, ◌∙◌}
use mathlib.Core.Bool.{Bool, true, false, ◌&&◌, true≢false}
use mathlib.Core.List.{List, [], ◌∷◌}
use mathlib.Core.Logic.{inl, inr, ⊎_elim}
use Prim.Native.Nat.{ℕ, ◌+◌, ◌*◌, ◌≤◌}
use lib.ListN.{length}
use Rattle.ranges.specs.Range.{Range, range, Covers}
use Rattle.ranges.specs.Store.{most_pairs}
use Rattle.ranges.specs.declared.Width.{Width}
use Rattle.reception.specs.History.{Event, Data, Metadata, Eof, State, fresh, is_accepted, step, run, metadata_came, told_size, kept_by, kept_from, ranges_of}
use Rattle.reception.proofs.Records.{mark_metadata}
use Rattle.reception.proofs.Histories.{missing_exact}
use Rattle.holding.specs.Whole.{AllWhole, NoneRefused}
use Rattle.holding.proofs.Histories.{filled}
use Rattle.holding.proofs.Whole.{whole-taken}
use Rattle.sequence.specs.Entries.{rounded_up}
use Rattle.sequence.specs.Sequence.{Allowed, asked}
use Rattle.sequence.specs.declared.Order.{Order}
use Rattle.sequence.specs.Calls.{Call, AllFit, octets_by, budgets}
use Rattle.sequence.specs.Parted.{parted, requests_read}
use Rattle.sequence.proofs.Named.{requests, names-missing}
use Rattle.closing.specs.Arrival.{data_of, Arrives}
use Rattle.closing.proofs.Closing.{closes-covered}

-- one full sequence on the record that any history with metadata and size leaves: a run of calls whose budgets suffice
module _
    (w : Width) (xs : List ℕ) (N : ℕ) (size : length xs ≡ 2 * N) (few : N ≤ most_pairs) (es : List Event)
    (known : metadata_came (fresh w xs) es ≡ true) (z : ℕ) (told : told_size (fresh w xs) es ≡ z ∷ [])
    (o : Order)
    (ok : Allowed (run (fresh w xs) es).rec (run (fresh w xs) es).list o)
    (cs : List Call) (fit : AllFit o cs)
    (enough : rounded_up (length (asked (run (fresh w xs) es).rec (run (fresh w xs) es).list o).entries)
    (asked (run (fresh w xs) es).rec (run (fresh w xs) es).list o).each ≤ budgets cs)
  where
    abbrev reached : State
    reached = run (fresh w xs) es

    -- the octets that the calls wrote
    abbrev octets : List ℕ
    octets = octets_by reached.rec reached.list o 0 cs

    -- the data for every request arrives
    pub closes : (ds : List Event) → Arrives (requests_read o.form.edition (parted octets)) ds → NoneRefused reached ds → ranges_of (run reached ds) ≡ []
    closes ds h a = closes-covered w xs N size few es known z told o ok cs fit enough ds h.covered a

    -- the metadata is known, so the requests read are the list's ranges
    requests-are : requests_read o.form.edition (parted octets) ≡ ranges_of reached
    requests-are = requests w xs N size few es o ok cs fit enough ∙ rw (mark_metadata w xs es, known)

    -- requests that come whole, in any order and repeated, are never refused; so where all of them come, the list is empty
    pub closes-whole : (ds : List Event) → AllWhole (requests_read o.form.edition (parted octets)) ds
        → ((x : ℕ) → Covers x (requests_read o.form.edition (parted octets)) → Covers x (data_of ds))
        → NoneRefused reached ds × (ranges_of (run reached ds) ≡ [])
    closes-whole ds a f =
        let n = whole-taken w xs N size few es known z told ds (rw requests-are at a) in
        (n, closes-covered w xs N size few es known z told o ok cs fit enough ds f n)
