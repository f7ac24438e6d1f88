-- The data event's answer at each end of its checks, where the record is sound.
use mathlib.Core.Path.{◌≡◌, ◌∙◌}
use mathlib.Core.Bool.{true, false, cond}
use mathlib.Core.List.{List, [], ◌∷◌}
use Prim.Native.Nat.{ℕ, ◌+◌, ◌≤◌, ◌<◌}
use borrow.Author.Tests.{eq-eqb, ne_eqb, lt-ltb, le-ltb}
use Rattle.ranges.specs.Store.{capacity, limit_of}
use Rattle.outcomes.specs.Outcome.{Outcome, accepted}
use Rattle.outcomes.specs.Checks.{first_of}
use Rattle.outcomes.specs.Refusal.{refusing}
use Rattle.outcomes.specs.declared.Refusal.TheVariants as refusal
use Rattle.reception.specs.Record.{Passed}
use Rattle.reception.specs.declared.Reception.{Reception}
use Rattle.reception.specs.Data.{data_leaves, is_too_long, is_past_size, is_full, segment_checks, room_outcome, data_outcome}
use Rattle.reception.proofs.Sound.{behind_record}

module _ (rec : Reception) (xs : List ℕ) (offset size : ℕ) where
  module _ (p : Passed xs rec) where
    from : (o : Outcome) → o ≡ first_of (segment_checks rec offset size) (room_outcome rec xs offset size) → o ≡ data_outcome rec xs offset size
    from o e = e ∙ behind_record xs rec p (segment_checks rec offset size) (room_outcome rec xs offset size)

    pub data-empty : size ≡ 0 → (refusing refusal.EmptySegment) ≡ data_outcome rec xs offset size
    data-empty h = from (refusing refusal.EmptySegment) (rw (eq-eqb size 0 h))

    module _ (n : size ≡ 0 → ⊥) where
      pub data-long : is_too_long offset size ≡ true → (refusing refusal.RangeTooLong) ≡ data_outcome rec xs offset size
      data-long h = from (refusing refusal.RangeTooLong) (rw (ne_eqb size 0 n, h))

      module _ (s : is_too_long offset size ≡ false) where
        pub data-large : limit_of rec.width < offset + size → (refusing refusal.LargeFileSegmentNotSupported) ≡ data_outcome rec xs offset size
        data-large h = from (refusing refusal.LargeFileSegmentNotSupported) (rw (ne_eqb size 0 n, s, lt-ltb _ _ h))

        module _ (t : offset + size ≤ limit_of rec.width) where
          pub data-past : is_past_size rec (offset + size) ≡ true → (refusing refusal.FileSizeError) ≡ data_outcome rec xs offset size
          data-past h = from (refusing refusal.FileSizeError) (rw (ne_eqb size 0 n, s, le-ltb _ _ t, h))

          module _ (w : is_past_size rec (offset + size) ≡ false) where
            pub data_full : is_full (capacity xs) (data_leaves rec xs offset size) ≡ true → (refusing refusal.StoreFull) ≡ data_outcome rec xs offset size
            data_full h = from (refusing refusal.StoreFull) (rw (ne_eqb size 0 n, s, le-ltb _ _ t, w, h))

            pub data-taken : is_full (capacity xs) (data_leaves rec xs offset size) ≡ false
                → cond rec.missing (accepted (0 ∷ [])) (accepted (1 ∷ [])) ≡ data_outcome rec xs offset size
            data-taken h = from (cond rec.missing (accepted (0 ∷ [])) (accepted (1 ∷ []))) (rw (ne_eqb size 0 n, s, le-ltb _ _ t, w, h))
