-- From a fresh reception with room for N, after any events: which events are news, that a reset is never refused, and which timers are made.
use mathlib.Core.Path.{◌≡◌, refl, sym, ◌∙◌}
use mathlib.Core.Bool.{true, false}
use mathlib.Core.List.{List, [], ◌∷◌}
use mathlib.Core.Logic.{◌↔◌}
use Prim.Native.Nat.{ℕ, ◌+◌, ◌*◌, ◌≤◌}
use native.Mathlib.Omega.{arith}
use lib.ListN.{length}
use lib.Dec.{ltb, eqb}
use borrow.Author.Tests.{eqb-false, ltb-false, ne_eqb, le-ltb}
use Rattle.ranges.specs.Range.{range, In, Covers, some, shares}
use Rattle.ranges.specs.Store.{most_pairs}
use Rattle.ranges.specs.declared.Width.{Width}
use Rattle.ranges.proofs.Some.{shares-set}
use Rattle.ranges.proofs.Test.{or_false}
use Rattle.outcomes.specs.Outcome.{accepted}
use Rattle.outcomes.proofs.FirstOf.{first-none}
use Rattle.reception.specs.Record.{record_checks, Passed}
use Rattle.reception.specs.History.{Event, Data, Metadata, Eof, State, fresh, is_accepted, run, metadata_came, told_size, Missing, ranges_of}
use Rattle.reception.proofs.Records.{mark_metadata, told-size}
use Rattle.reception.proofs.Histories.{missing_exact, list-coalesced, always_sound}
use Rattle.holding.proofs.Sizes.{sized_of}
use Rattle.deferring.specs.Make.{is_outside, is_bad_timer, most_ticks, most_asks}
use Rattle.deferring.specs.Hear.{is_news}
use Rattle.deferring.specs.Reset.{reset_outcome}
use Rattle.deferring.proofs.Lowering.{nonempty, data-lowers, eof_never}

module _ (w : Width) (xs : List ℕ) (N : ℕ) (size : length xs ≡ 2 * N) (few : N ≤ most_pairs) (es : List Event) where
  abbrev reached : State
  reached = run (fresh w xs) es

  sound-now : Passed reached.list reached.rec
  sound-now = always_sound w xs N size few es

  -- the metadata event is news, an accepted end of file is none
  pub metadata_news : is_news reached Metadata ≡ true
  metadata_news = refl

  pub eof_none : (z : ℕ) → is_accepted reached (Eof z) ≡ true → is_news reached (Eof z) ≡ false
  eof_none z f = eof_never reached sound-now z f

  -- accepted data, once the size was told
  module _ (z : ℕ) (told : told_size (fresh w xs) es ≡ z ∷ []) (o n : ℕ) (f : is_accepted reached (Data o n) ≡ true) where
    sized : reached.rec.sized ≡ true
    sized = (sized_of reached.rec z (told-size w xs es ∙ told)).0

    -- before the metadata came it is no news
    pub waiting_none : metadata_came (fresh w xs) es ≡ false → is_news reached (Data o n) ≡ false
    waiting_none c = data-lowers reached sound-now o n f sized ∙ rw (mark_metadata w xs es, c)

    -- afterwards it is exactly if an octet of it was missing
    pub news-exactly : metadata_came (fresh w xs) es ≡ true → (is_news reached (Data o n) ≡ true) ↔ ((x : ℕ) × In x (range o (o + n)) × Missing (fresh w xs) es x)
    news-exactly c = (
      λ e. let v = set.0 (sym news ∙ e) in (v.0, v.1, (missing_exact w xs N size few es v.0).0 v.2),
      λ v. news ∙ set.1 (v.0, v.1, (missing_exact w xs N size few es v.0).1 v.2),
    )
      where
        news : is_news reached (Data o n) ≡ some (shares o (o + n)) (ranges_of reached)
        news = data-lowers reached sound-now o n f sized ∙ rw (mark_metadata w xs es, c)

        set : (some (shares o (o + n)) (ranges_of reached) ≡ true) ↔ ((x : ℕ) × In x (range o (o + n)) × Covers x (ranges_of reached))
        set = shares-set o (o + n) (nonempty reached sound-now o n f sized) (ranges_of reached) (list-coalesced w xs N size few es)

  -- a reset is never refused
  pub reset_taken : reset_outcome reached.rec reached.list ≡ accepted []
  reset_taken = first-none (record_checks reached.rec reached.list) (accepted []) sound-now

-- a timer is made exactly with 1 to 65,535 ticks and a limit of 1 to 255
inside-range : (most n : ℕ) → (is_outside most n ≡ false) ↔ ((1 ≤ n) × (n ≤ most))
inside-range most n = (
  λ e. let p = or_false (eqb n 0) (ltb most n) e in let k : n ≡ 0 → ⊥ = eqb-false n 0 p.0 in (omega arith, ltb-false _ _ p.1),
  λ h. rw (ne_eqb n 0 (λ e. omega (arith, h.0, e)), le-ltb most n h.1),
)

pub made_exactly : (d limit : ℕ) → (is_bad_timer d limit ≡ false) ↔ (((1 ≤ d) × (d ≤ 65535)) × ((1 ≤ limit) × (limit ≤ 255)))
made_exactly d limit = (
  λ e. let p = or_false (is_outside most_ticks d) (is_outside most_asks limit) e in ((inside-range most_ticks d).0 p.0, (inside-range most_asks limit).0 p.1),
  λ h. rw ((inside-range most_ticks d).1 h.0, (inside-range most_asks limit).1 h.1),
)
