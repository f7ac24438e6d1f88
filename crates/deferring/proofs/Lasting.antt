-- A sound record, whatever its history: each event leaves a sound one, and what the list then has is said of the list before.
use mathlib.Core.Path.{◌≡◌, refl, sym, ◌∙◌}
use mathlib.Core.Bool.{Bool, true, false, ◌&&◌, not, true≢false}
use mathlib.Core.List.{[], ◌∷◌}
use mathlib.Core.Logic.{◌⊎◌}
use Prim.Native.Nat.{ℕ, ◌+◌, ◌<◌}
use native.Mathlib.Omega.{arith}
use lib.ListN.{length}
use Rattle.ranges.specs.Range.{Covers}
use Rattle.ranges.specs.Store.{capacity}
use Rattle.ranges.proofs.Flat.{flat-counted}
use Rattle.reception.proofs.Ends.{below_last}
use Rattle.ranges.proofs.Without.{part_covers}
use Rattle.reception.specs.Record.{Passed}
use Rattle.reception.specs.History.{Event, State, is_accepted, step, kept_by, accepted_of, ranges_of}
use Rattle.reception.proofs.Sound.{Sound, sound}
use Rattle.reception.proofs.Waits.{waiting_of}
use Rattle.reception.proofs.Standing.{standing-passed}
use Rattle.reception.proofs.Histories.{Holds, history}
use Rattle.holding.specs.Count.{is_covered}
use Rattle.holding.proofs.Counting.{covered-set}

not_twice : (t : Bool) → t ≡ not (not t)
not_twice true = refl
not_twice false = refl

module _ (s : State) (p : Passed s.list s.rec) where
  -- the offsets below progress that the list has not
  abbrev pub Had : ℕ → Type 0
  Had x = (x < s.rec.progress) × (Covers x (ranges_of s) → ⊥)

  known : Sound s.list s.rec
  known = sound s.list s.rec p

  covered : (x : ℕ) → (x < s.rec.progress) × (Had x → ⊥) → Covers x (ranges_of s)
  covered x w = go (is_covered (ranges_of s) x) refl
    where
      go : (t : Bool) → is_covered (ranges_of s) x ≡ t → Covers x (ranges_of s)
      go true e = (covered-set (ranges_of s) x).0 e
      go false e = absurd (w.1 (w.0, λ c. true≢false (sym ((covered-set (ranges_of s) x).1 c) ∙ e)))

  pub holds-sound : Holds s (capacity s.list) Had (length (ranges_of s))
  holds-sound =
      let g = known.store in
      let r = g.room in
      let m = g.small in
      let v = g.even in
      record {
        standing = record {
          size = omega arith;
          few = omega arith;
          room = omega arith;
          held = sym (flat-counted s.list s.rec.count r);
          whole = known.whole;
          last = known.above;
          small = known.small;
          waits = λ q. waiting_of s.rec.progress (ranges_of s) (known.waits q);
          told = known.told;
        };
        exact = λ x. (λ c. let b = below_last 0 x (ranges_of s) known.whole c in let a = known.above in (omega arith, λ h. h.1 c), covered x);
        below = λ x h. h.0;
        none = λ q x h. h.1 (rw (waiting_of s.rec.progress (ranges_of s) (known.waits q)) ((part_covers x 0 s.rec.progress).1 (omega arith, h.0)));
        runs = omega arith;
      }

  -- after an event
  pub holds_after : (e : Event)
      → Holds (step s e) (capacity s.list) (λ x. Covers x (kept_by (is_accepted s e && not s.rec.missing) e []) ⊎ Had x) (accepted_of s (e ∷ []) + length (ranges_of s))
  holds_after e = history (e ∷ []) s (capacity s.list) Had (length (ranges_of s)) (not s.rec.missing) (not_twice s.rec.missing) holds-sound

  pub passed-after : (e : Event) → Passed (step s e).list (step s e).rec
  passed-after e = standing-passed (step s e) (capacity s.list) (holds_after e).standing
