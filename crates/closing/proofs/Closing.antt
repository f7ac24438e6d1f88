-- A transfer closes: where the metadata came and the size was told, and the data for every request of one full sequence then arrives
-- and none is refused, the list is empty.
use mathlib.Core.Path.{◌≡◌, sym, ◌∙◌}
use mathlib.Core.Bool.{Bool, true, false, ◌&&◌, true≢false}
use mathlib.Core.List.{List, [], ◌∷◌}
use mathlib.Core.Logic.{inl, inr, ⊎_elim}
use Prim.Native.Nat.{ℕ, ◌+◌, ◌*◌, ◌≤◌}
use lib.ListN.{length}
use Rattle.ranges.specs.Range.{Range, range, Covers}
use Rattle.ranges.specs.Store.{most_pairs}
use Rattle.ranges.specs.declared.Width.{Width}
use Rattle.reception.specs.History.{Event, Data, Metadata, Eof, State, fresh, is_accepted, step, run, metadata_came, told_size, kept_by, kept_from, ranges_of}
use Rattle.reception.proofs.Records.{mark_metadata}
use Rattle.reception.proofs.Histories.{missing_exact}
use Rattle.holding.specs.Whole.{AllWhole, NoneRefused}
use Rattle.holding.proofs.Histories.{filled}
use Rattle.holding.proofs.Whole.{whole-taken}
use Rattle.sequence.specs.Entries.{rounded_up}
use Rattle.sequence.specs.Sequence.{Allowed, asked}
use Rattle.sequence.specs.declared.Order.{Order}
use Rattle.sequence.specs.Calls.{Call, AllFit, octets_by, budgets}
use Rattle.sequence.specs.Parted.{parted, requests_read}
use Rattle.sequence.proofs.Named.{requests, names-missing}
use Rattle.closing.specs.Arrival.{data_of, Arrives}

-- an accepted event keeps its data and what the later ones keep
own-kept : (t : Bool) (o n x : ℕ) (rs : List Range) → t ≡ true → Covers x (range o (o + n) ∷ rs) → Covers x (kept_by (t && true) (Data o n) rs)
own-kept true o n x rs e c = c
own-kept false o n x rs e c = absurd (true≢false (sym e))

later-kept : (t : Bool) (e : Event) (x : ℕ) (rs : List Range) → Covers x rs → Covers x (kept_by t e rs)
later-kept true (Data o n) x rs c = inr c
later-kept true Metadata x rs c = c
later-kept true (Eof z) x rs c = c
later-kept false e x rs c = c

-- events of which none is refused keep all their data, once the metadata is known
pub all-kept : (es : List Event) (s : State) (x : ℕ) → NoneRefused s es → Covers x (data_of es) → Covers x (kept_from true s es)
all-kept [] s x a c = c
all-kept (Data o n ∷ es) s x a c =
    own-kept (is_accepted s (Data o n)) o n x _ a.0 (⊎_elim (λ h. inl h) (λ h. inr (all-kept es (step s (Data o n)) x a.1 h)) c)
all-kept (Metadata ∷ es) s x a c = later-kept (is_accepted s Metadata && true) Metadata x _ (all-kept es (step s Metadata) x a.1 c)
all-kept (Eof z ∷ es) s x a c = later-kept (is_accepted s (Eof z) && true) (Eof z) x _ (all-kept es (step s (Eof z)) x a.1 c)

-- one full sequence on the record that any history with metadata and size leaves: a run of calls whose budgets suffice
module _
    (w : Width) (xs : List ℕ) (N : ℕ) (size : length xs ≡ 2 * N) (few : N ≤ most_pairs) (es : List Event)
    (known : metadata_came (fresh w xs) es ≡ true) (z : ℕ) (told : told_size (fresh w xs) es ≡ z ∷ [])
    (o : Order)
    (ok : Allowed (run (fresh w xs) es).rec (run (fresh w xs) es).list o)
    (cs : List Call) (fit : AllFit o cs)
    (enough : rounded_up (length (asked (run (fresh w xs) es).rec (run (fresh w xs) es).list o).entries)
    (asked (run (fresh w xs) es).rec (run (fresh w xs) es).list o).each ≤ budgets cs)
  where
    abbrev reached : State
    reached = run (fresh w xs) es

    -- the octets that the calls wrote
    abbrev octets : List ℕ
    octets = octets_by reached.rec reached.list o 0 cs

    -- whatever comes, if none of it is refused and its data covers the requests, the list is empty
    pub closes-covered : (ds : List Event) → ((x : ℕ) → Covers x (requests_read o.form.edition (parted octets)) → Covers x (data_of ds)) → NoneRefused reached ds
        → ranges_of (run reached ds) ≡ []
    closes-covered ds f a =
        filled w xs N size few es known z told ds
        (λ x c. all-kept ds reached x a (f x ((names-missing w xs N size few es o ok cs fit enough x).1 ((missing_exact w xs N size few es x).0 c))))
