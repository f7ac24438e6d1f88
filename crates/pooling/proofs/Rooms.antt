-- What holds of a reception holds of one with the same record and the same ranges, in a list with another room.
use mathlib.Core.Path.{◌≡◌, sym, ap, ◌∙◌}
use Prim.Native.Nat.{ℕ, ◌*◌, ◌≤◌}
use lib.ListN.{length, take}
use Rattle.ranges.specs.Store.{flat, most_pairs}
use Rattle.reception.specs.declared.Reception.{Reception}
use Rattle.reception.specs.History.{State, ranges_of}
use Rattle.reception.proofs.Histories.{Holds}

module _ (s t : State) (N M : ℕ) (P : ℕ → Type 0) (n : ℕ) (e : s.rec ≡ t.rec) (r : ranges_of s ≡ ranges_of t) (size : length t.list ≡ 2 * M) (few : M ≤ most_pairs)
    (room : t.rec.count ≤ M) (held : take (2 * t.rec.count) t.list ≡ flat (ranges_of t)) (h : Holds s N P n) where
  progress : s.rec.progress ≡ t.rec.progress
  progress = ap (λ (c : Reception). c.progress) e

  missing : s.rec.missing ≡ t.rec.missing
  missing = ap (λ (c : Reception). c.missing) e

  pub another_room : Holds t M P n
  another_room =
      let g = h.standing in
      record {
        standing = record {
          size = size;
          few = few;
          room = room;
          held = held;
          whole = rw (← r) g.whole;
          last = rw (← r, ← progress) g.last;
          small = rw (← e) g.small;
          waits = λ m. sym r ∙ g.waits (missing ∙ m) ∙ rw progress;
          told = λ m. rw (← e) (g.told (ap (λ (c : Reception). c.sized) e ∙ m));
        };
        exact = λ x. rw (← r, ← progress) (h.exact x);
        below = λ x. rw (← progress) (h.below x);
        none = λ m. h.none (missing ∙ m);
        runs = rw (← r) h.runs;
      }
