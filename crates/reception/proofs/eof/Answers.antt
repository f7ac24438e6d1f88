-- The EOF event's answer at each end of its checks, where the record is sound.
use mathlib.Core.Path.{◌≡◌, ◌∙◌}
use mathlib.Core.Bool.{true, false}
use mathlib.Core.List.{List, []}
use Prim.Native.Nat.{ℕ, ◌≤◌, ◌<◌}
use borrow.Author.Tests.{lt-ltb, le-ltb}
use Rattle.ranges.specs.Store.{capacity, limit_of}
use Rattle.outcomes.specs.Outcome.{Outcome, accepted}
use Rattle.outcomes.specs.Checks.{first_of}
use Rattle.outcomes.specs.Refusal.{refusing}
use Rattle.outcomes.specs.declared.Refusal.TheVariants as refusal
use Rattle.reception.specs.Record.{Passed}
use Rattle.reception.specs.declared.Reception.{Reception}
use Rattle.reception.specs.Data.{is_full}
use Rattle.reception.specs.Eof.{eof_leaves, is_other_size, size_checks, tail_outcome, eof_outcome}
use Rattle.reception.proofs.Sound.{behind_record}

module _ (rec : Reception) (xs : List ℕ) (z : ℕ) (p : Passed xs rec) where
  from : (o : Outcome) → o ≡ first_of (size_checks rec z) (tail_outcome rec xs z) → o ≡ eof_outcome rec xs z
  from o e = e ∙ behind_record xs rec p (size_checks rec z) (tail_outcome rec xs z)

  pub eof_large : limit_of rec.width < z → refusing refusal.LargeFileSegmentNotSupported ≡ eof_outcome rec xs z
  eof_large h = from (refusing refusal.LargeFileSegmentNotSupported) (rw (lt-ltb _ _ h))

  module _ (s : z ≤ limit_of rec.width) where
    pub eof-other : is_other_size rec z ≡ true → refusing refusal.FileSizeError ≡ eof_outcome rec xs z
    eof-other h = from (refusing refusal.FileSizeError) (rw (le-ltb _ _ s, h))

    module _ (o : is_other_size rec z ≡ false) where
      pub eof_full : is_full (capacity xs) (eof_leaves rec xs z) ≡ true → refusing refusal.StoreFull ≡ eof_outcome rec xs z
      eof_full h = from (refusing refusal.StoreFull) (rw (le-ltb _ _ s, o, h))

      pub eof-ended : is_full (capacity xs) (eof_leaves rec xs z) ≡ false → accepted [] ≡ eof_outcome rec xs z
      eof-ended h = from (accepted []) (rw (le-ltb _ _ s, o, h))
