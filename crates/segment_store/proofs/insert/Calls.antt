-- insert beside the two calls that it joins: on a coalesced list with room, add and then coalesce leave the same counted ranges; where
-- the store is full add refuses, and insert takes a range that merges.
use mathlib.Core.Path.{◌≡◌, refl, sym, ap, ◌∙◌}
use mathlib.Core.Bool.{false}
use mathlib.Core.List.{List, [], ◌∷◌, ◌++◌, Memᴰ}
use Prim.Native.Nat.{ℕ, ◌+◌, ◌*◌, ◌≤◌, ◌<◌}
use native.Mathlib.Omega.{arith}
use lib.ListN.{length, take, length-append}
use lib.Dec.{ltb}
use borrow.Author.Tests.{le-ltb, eq-eqb, ne_eqb}
use Rattle.ranges.specs.Range.{Range, range}
use Rattle.ranges.specs.Store.{counted, capacity, limit_of, is_bad_store, any_above, stored, flat}
use Rattle.outcomes.specs.Outcome.{accepted}
use Rattle.outcomes.specs.Refusal.{refusing}
use Rattle.outcomes.specs.declared.Refusal.TheVariants as refusal
use Rattle.ranges.proofs.Test.{or_false}
use Rattle.ranges.proofs.Good.{good, good-store}
use Rattle.ranges.proofs.Flat.{length-counted, flat_append, flat-counted}
use Rattle.ranges.proofs.Insert.{insert-length}
use Rattle.ranges.proofs.Stored.{take-stored, length-stored}
use Rattle.segment_store.specs.declared.Store.{Store}
use Rattle.segment_store.specs.Add.{add_outcome, add_list}
use Rattle.segment_store.specs.Coalesce.{maximal_runs, coalesce_outcome, coalesce_list}
use Rattle.segment_store.specs.Insert.{insert_leaves, insert_outcome, insert_list, Enters}
use Rattle.segment_store.proofs.add.Meaning.{add-accepted, add_ranges}
use Rattle.segment_store.proofs.coalesce.Meaning.{coalesce_ranges, coalesce_answers}
use Rattle.segment_store.proofs.insert.Runs.{runs_inserted}
use Rattle.segment_store.proofs.insert.Meaning.{insert-accepted, insert_ranges, insert_merges}

-- the store with another count
abbrev pub with_count : Store → ℕ → Store
with_count st n = record { count = n; width = st.width }

above-append : (top : ℕ) (xs ys : List ℕ) → any_above top xs ≡ false → any_above top ys ≡ false → any_above top (xs ++ ys) ≡ false
above-append top [] ys h k = k
above-append top (x ∷ xs) ys h k = let p = or_false (ltb top x) (any_above top xs) h in rw p.0 (above-append top xs ys p.1 k)

module _ (xs : List ℕ) (st : Store) (s e : ℕ) (t : Enters xs st s e) where
  abbrev old : List Range
  old = counted xs st.count

  abbrev top : ℕ
  top = limit_of st.width

  -- with room for one range more
  module _ (room : st.count < capacity xs) where
    added : add_outcome xs st s e ≡ accepted ((st.count + 1) ∷ [])
    added =
        (add-accepted xs st s e (st.count + 1)).1
        (record { good = t.good; nonempty = t.nonempty; start-within = t.start-within; end-within = t.end-within; room = room }, refl)

    abbrev ys : List ℕ
    ys = add_list xs st s e

    appended : counted ys (st.count + 1) ≡ old ++ (range s e ∷ [])
    appended = add_ranges xs st s e (st.count + 1) added

    -- what add leaves is a store
    still : is_bad_store ys (st.count + 1) top ≡ false
    still =
        let g = good xs st.count top t.good in
        let n = length-counted xs st.count g.room in
        let more : List Range = old ++ (range s e ∷ []) in
        let l : length more ≡ st.count + 1 = length-append old (range s e ∷ []) ∙ ap (λ (k : ℕ). k + 1) n in
        let y : ys ≡ stored more st.count xs = rw added in
        let z : length ys ≡ length xs = ap length y ∙ length-stored more st.count xs (omega arith) g.room in
        let f : take (2 * (st.count + 1)) ys ≡ flat more = rw (y, ← l) (take-stored more st.count xs) in
        let w : any_above top (flat more) ≡ false = rw (flat_append old (range s e ∷ []), flat-counted xs st.count g.room)
        (above-append top (take (2 * st.count) xs) (s ∷ e ∷ []) g.below (rw (le-ltb top s t.start-within, le-ltb top e t.end-within))) in
        good-store ys (st.count + 1) top (record { room = omega arith; small = rw z g.small; even = rw z g.even; below = rw f w })

    abbrev runs : List Range
    runs = insert_leaves xs st s e

    coalesced : coalesce_outcome ys (with_count st (st.count + 1)) ≡ accepted (length runs ∷ [])
    coalesced = coalesce_answers ys (with_count st (st.count + 1)) still ∙ rw appended

    inserts : insert_outcome xs st s e ≡ accepted (length runs ∷ [])
    inserts =
        let g = good xs st.count top t.good in
        let n = length-counted xs st.count g.room in
        let l : length runs ≤ length old + 1 = rw (runs_inserted s e old t.nonempty t.coalesced) (omega (arith, insert-length (range s e) old)) in
        (insert-accepted xs st s e (length runs)).1 (t, omega arith, refl)

    -- add, and then coalesce, on what it left: the same count and the same counted ranges as insert
    pub insert-is-both : (add_outcome xs st s e ≡ accepted ((st.count + 1) ∷ []))
        × (coalesce_outcome (add_list xs st s e) (with_count st (st.count + 1)) ≡ accepted (length (insert_leaves xs st s e) ∷ []))
        × (insert_outcome xs st s e ≡ accepted (length (insert_leaves xs st s e) ∷ []))
        × (counted (insert_list xs st s e) (length (insert_leaves xs st s e)) ≡ counted (coalesce_list (add_list xs st s e) (with_count st (st.count + 1))) (length (insert_leaves xs st s e)))
    insert-is-both = (
      added,
      coalesced,
      inserts,
      insert_ranges xs st s e (length runs) inserts ∙ sym (coalesce_ranges ys (with_count st (st.count + 1)) (length runs) coalesced ∙ ap maximal_runs appended),
    )

  -- a full store: add refuses, insert takes a range that overlaps or touches a counted one
  pub insert_where_full : st.count ≡ capacity xs → (q : Range) → Memᴰ q (counted xs st.count) → s ≤ q.end → q.start ≤ e
      → (add_outcome xs st s e ≡ refusing refusal.StoreFull) × (insert_outcome xs st s e ≡ accepted (length (insert_leaves xs st s e) ∷ []))
  insert_where_full c q m h k =
      let lt = t.nonempty in (
        rw (t.good, ne_eqb s e (λ f. omega arith), le-ltb e s (omega arith), le-ltb top s t.start-within, le-ltb top e t.end-within, eq-eqb st.count (capacity xs) c),
        (insert_merges xs st s e t q m h k).0,
      )
