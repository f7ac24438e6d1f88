-- The number of each refusal, and what it also carries (document 01, "Numbers handed back on refusal"; 21, 22, 23, 25 and 26: document 02,
-- C-11, C-14, C-21, C-22 and C-23).
use Rattle.std.specs.Prelude.{[], ◌∷◌}
use Rattle.outcomes.specs.Outcome.{Outcome, refused}
use Rattle.outcomes.specs.declared.Refusal.{Refusal}
use Rattle.outcomes.specs.declared.Refusal.TheVariants as refusal

abbrev pub refusing : Refusal → Outcome
refusing refusal.StoreFull = refused 1 []
refusing refusal.EmptySegment = refused 2 []
refusing (refusal.StartLargerThanEnd start end) = refused 3 (start ∷ end ∷ [])
refusing refusal.LargeFileSegmentNotSupported = refused 4 []
refusing (refusal.InvalidSegmentBoundary start end) = refused 5 (start ∷ end ∷ [])
refusing (refusal.BufferSizeMissmatch needed given) = refused 6 (needed ∷ given ∷ [])
refusing refusal.LargeSegmentForNormalFileSize = refused 7 []
refusing refusal.NotCoalesced = refused 8 []
refusing refusal.RangeTooLong = refused 9 []
refusing refusal.BadStore = refused 10 []
refusing refusal.BadCursor = refused 11 []
refusing refusal.ScopeBelowList = refused 12 []
refusing refusal.BadIdentity = refused 13 []
refusing refusal.PduSize = refused 14 []
refusing refusal.BadHeader = refused 15 []
refusing refusal.LengthMismatch = refused 16 []
refusing refusal.NotNak = refused 17 []
refusing refusal.ScopeReversed = refused 18 []
refusing refusal.AlreadyKnown = refused 19 []
refusing refusal.BudgetTooLarge = refused 20 []
refusing refusal.BadTrailer = refused 21 []
refusing refusal.FileSizeError = refused 22 []
refusing refusal.BadPool = refused 23 []
refusing refusal.BadTimer = refused 25 []
refusing (refusal.BadPlan test pdu) = refused 26 (test ∷ pdu ∷ [])
