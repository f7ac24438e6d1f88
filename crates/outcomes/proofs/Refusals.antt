-- No refusal has the number 0, so nothing lent changes under one; and no two refusals have one outcome.
use mathlib.Core.Path.{◌≡◌, refl, sym, ap, ◌∙◌}
use mathlib.Core.Bool.{cond, false, true≢false}
use mathlib.Core.List.{List}
use Prim.Native.Nat.{ℕ}
use lib.Dec.{eqb}
use lib.ListN.{get_or}
use borrow.Author.Tests.{ne_eqb}
use Rattle.outcomes.specs.Outcome.{Outcome, accepted, lent}
use Rattle.outcomes.specs.Refusal.{refusing}
use Rattle.outcomes.specs.declared.Refusal.{Refusal}
use Rattle.outcomes.specs.declared.Refusal.TheVariants as refusal
use Rattle.outcomes.proofs.Apart.{apart}

-- the i-th value
abbrev pub value : ℕ → Outcome → ℕ
value i o = get_or o.values i 0

-- the refusal of an outcome
abbrev pub refusal_back : Outcome → Refusal
refusal_back o =
    (cond (eqb o.number 1) refusal.StoreFull
    (cond (eqb o.number 2) refusal.EmptySegment
    (cond (eqb o.number 3) (refusal.StartLargerThanEnd (value 0 o) (value 1 o))
    (cond (eqb o.number 4) refusal.LargeFileSegmentNotSupported
    (cond (eqb o.number 5) (refusal.InvalidSegmentBoundary (value 0 o) (value 1 o))
    (cond (eqb o.number 6) (refusal.BufferSizeMissmatch (value 0 o) (value 1 o))
    (cond (eqb o.number 7) refusal.LargeSegmentForNormalFileSize
    (cond (eqb o.number 8) refusal.NotCoalesced
    (cond (eqb o.number 9) refusal.RangeTooLong
    (cond (eqb o.number 10) refusal.BadStore
    (cond (eqb o.number 11) refusal.BadCursor
    (cond (eqb o.number 12) refusal.ScopeBelowList
    (cond (eqb o.number 13) refusal.BadIdentity
    (cond (eqb o.number 14) refusal.PduSize
    (cond (eqb o.number 15) refusal.BadHeader
    (cond (eqb o.number 16) refusal.LengthMismatch
    (cond (eqb o.number 17) refusal.NotNak
    (cond (eqb o.number 18) refusal.ScopeReversed
    (cond (eqb o.number 19) refusal.AlreadyKnown
    (cond (eqb o.number 20) refusal.BudgetTooLarge
    (cond (eqb o.number 21) refusal.BadTrailer
    (cond (eqb o.number 22) refusal.FileSizeError
    (cond (eqb o.number 23) refusal.BadPool
    (cond (eqb o.number 25) refusal.BadTimer
    (refusal.BadPlan (value 0 o) (value 1 o))))))))))))))))))))))))))

pub refusal-back : (r : Refusal) → refusal_back (refusing r) ≡ r
refusal-back refusal.StoreFull = refl
refusal-back refusal.EmptySegment = refl
refusal-back (refusal.StartLargerThanEnd a b) = refl
refusal-back refusal.LargeFileSegmentNotSupported = refl
refusal-back (refusal.InvalidSegmentBoundary a b) = refl
refusal-back (refusal.BufferSizeMissmatch a b) = refl
refusal-back refusal.LargeSegmentForNormalFileSize = refl
refusal-back refusal.NotCoalesced = refl
refusal-back refusal.RangeTooLong = refl
refusal-back refusal.BadStore = refl
refusal-back refusal.BadCursor = refl
refusal-back refusal.ScopeBelowList = refl
refusal-back refusal.BadIdentity = refl
refusal-back refusal.PduSize = refl
refusal-back refusal.BadHeader = refl
refusal-back refusal.LengthMismatch = refl
refusal-back refusal.NotNak = refl
refusal-back refusal.ScopeReversed = refl
refusal-back refusal.AlreadyKnown = refl
refusal-back refusal.BudgetTooLarge = refl
refusal-back refusal.BadTrailer = refl
refusal-back refusal.FileSizeError = refl
refusal-back refusal.BadPool = refl
refusal-back refusal.BadTimer = refl
refusal-back (refusal.BadPlan a b) = refl

pub one-refusal : (r s : Refusal) → refusing r ≡ refusing s → r ≡ s
one-refusal = apart refusing refusal_back refusal-back

pub refuses : (r : Refusal) → eqb (refusing r).number 0 ≡ false
refuses refusal.StoreFull = refl
refuses refusal.EmptySegment = refl
refuses (refusal.StartLargerThanEnd a b) = refl
refuses refusal.LargeFileSegmentNotSupported = refl
refuses (refusal.InvalidSegmentBoundary a b) = refl
refuses (refusal.BufferSizeMissmatch a b) = refl
refuses refusal.LargeSegmentForNormalFileSize = refl
refuses refusal.NotCoalesced = refl
refuses refusal.RangeTooLong = refl
refuses refusal.BadStore = refl
refuses refusal.BadCursor = refl
refuses refusal.ScopeBelowList = refl
refuses refusal.BadIdentity = refl
refuses refusal.PduSize = refl
refuses refusal.BadHeader = refl
refuses refusal.LengthMismatch = refl
refuses refusal.NotNak = refl
refuses refusal.ScopeReversed = refl
refuses refusal.AlreadyKnown = refl
refuses refusal.BudgetTooLarge = refl
refuses refusal.BadTrailer = refl
refuses refusal.FileSizeError = refl
refuses refusal.BadPool = refl
refuses refusal.BadTimer = refl
refuses (refusal.BadPlan a b) = refl

pub no_refusal : (r : Refusal) {vs : List ℕ} → refusing r ≡ accepted vs → ⊥
no_refusal r e = true≢false (ap (λ (o : Outcome). eqb o.number 0) (sym e) ∙ refuses r)

pub lent-refused : {A : Type 0} (r : Refusal) (new old : A) → lent (refusing r) new old ≡ old
lent-refused r new old = rw (refuses r)

-- the same of any outcome that is not accepted
pub lent_old : {A : Type 0} (o : Outcome) (new old : A) → (o.number ≡ 0 → ⊥) → lent o new old ≡ old
lent_old o new old n = rw (ne_eqb o.number 0 n)
