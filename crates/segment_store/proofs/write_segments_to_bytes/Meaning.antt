-- What write_segments_to_bytes accepts and leaves: the buffer is exactly the octets of the counted numbers. They determine the
-- numbers: lists of the same length whose numbers fit the field have the same octets only if they are the same list.
use mathlib.Core.Path.{◌≡◌, refl, sym, ap, ap₂, ◌∙◌}
use mathlib.Core.Bool.{false, not}
use mathlib.Core.List.{List, [], ◌∷◌}
use mathlib.Core.Logic.{◌↔◌}
use Prim.Native.Nat.{ℕ, ◌*◌}
use native.Mathlib.Omega.{arith}
use lib.ListN.{length, get_or, take, drop}
use lib.Dec.{eqb}
use lib.Seq.{take_at, drop_at}
use borrow.Author.Tests.{eq-eqb, ne_eqb, eqb-true, ltb-false, not-false}
use Rattle.ranges.specs.Store.{limit_of, is_bad_store, any_above}
use Rattle.outcomes.specs.Outcome.{Outcome, accepted, lent}
use Rattle.outcomes.specs.Refusal.{refusing}
use Rattle.outcomes.specs.declared.Refusal.TheVariants as refusal
use Rattle.outcomes.proofs.FirstOf.{first-none, first-accepted}
use Rattle.outcomes.proofs.Refusals.{lent_old}
use Rattle.ranges.proofs.Test.{or_false}
use Rattle.ranges.proofs.Good.{good}
use Rattle.octets.specs.declared.LargeFileFlag.{LargeFileFlag}
use Rattle.octets.specs.Flag.{field_length, largest_of}
use Rattle.octets.specs.Octets.{field, fields, number}
use Rattle.octets.proofs.Fields.{length-field, got_put}
use Rattle.octets.proofs.Largest.{largest-fits}
use Rattle.segment_store.specs.declared.Store.{Store}
use Rattle.segment_store.specs.WriteSegmentsToBytes.{write_length, to_bytes_checks, to_bytes_outcome, to_bytes_buffer}
use Rattle.segment_store.proofs.write_segments_to_bytes.Sizes.{length-octets}

pub octets_determine : (flag : LargeFileFlag) (xs ys : List ℕ) → length xs ≡ length ys → any_above (largest_of flag) xs ≡ false → any_above (largest_of flag) ys ≡ false
    → fields (field_length flag) xs ≡ fields (field_length flag) ys → xs ≡ ys
octets_determine flag [] [] l u v e = refl
octets_determine flag [] (y ∷ ys) l u v e = absurd (omega arith)
octets_determine flag (x ∷ xs) [] l u v e = absurd (omega arith)
octets_determine flag (x ∷ xs) (y ∷ ys) l u v e =
    let f : ℕ = field_length flag in
    let p = or_false _ _ u in
    let q = or_false _ _ v in
    let a : field f x ≡ field f y = sym (take_at (field f x) (fields f xs) f (length-field f x)) ∙ ap (take f) e ∙ take_at (field f y) (fields f ys) f (length-field f y) in
    let b : fields f xs ≡ fields f ys = sym (drop_at (field f x) (fields f xs) f (length-field f x)) ∙ ap (drop f) e ∙ drop_at (field f y) (fields f ys) f (length-field f y) in
    let g : x ≡ y = sym (got_put f x (largest-fits flag x (ltb-false _ _ p.0))) ∙ ap number a ∙ got_put f y (largest-fits flag y (ltb-false _ _ q.0)) in
    ap₂ (λ (h : ℕ) (t : List ℕ). h ∷ t) g (octets_determine flag xs ys (omega arith) p.1 q.1 b)

module _ (xs : List ℕ) (st : Store) (flag : LargeFileFlag) (buf : List ℕ) where
  -- accepted exactly if the store is not bad, the buffer has the length count × 2F and every number fits; that length is answered
  pub write_accepted : (m : ℕ) → (to_bytes_outcome xs st flag buf ≡ accepted (m ∷ []))
      ↔ ((is_bad_store xs st.count (limit_of st.width) ≡ false)
      × (length buf ≡ write_length st flag) × (any_above (largest_of flag) (take (2 * st.count) xs) ≡ false) × (m ≡ write_length st flag))
  write_accepted m = (to, from)
    where
      done : Outcome
      done = accepted (write_length st flag ∷ [])

      to : to_bytes_outcome xs st flag buf ≡ accepted (m ∷ [])
          → (is_bad_store xs st.count (limit_of st.width) ≡ false)
          × (length buf ≡ write_length st flag) × (any_above (largest_of flag) (take (2 * st.count) xs) ≡ false) × (m ≡ write_length st flag)
      to h =
          let n = (first-accepted (to_bytes_checks xs st flag (length buf)) done (ap (λ (o : Outcome). eqb o.number 0) h)).0 in
          let e = sym h ∙ first-none (to_bytes_checks xs st flag (length buf)) done n in
          (n.0, eqb-true _ _ (not-false _ n.1.0), n.1.1.0, ap (λ (o : Outcome). get_or o.values 0 0) e)

      from : (is_bad_store xs st.count (limit_of st.width) ≡ false)
          × (length buf ≡ write_length st flag) × (any_above (largest_of flag) (take (2 * st.count) xs) ≡ false) × (m ≡ write_length st flag)
          → to_bytes_outcome xs st flag buf ≡ accepted (m ∷ [])
      from h =
          first-none (to_bytes_checks xs st flag (length buf)) done (h.0, (ap not (eq-eqb (length buf) (write_length st flag) h.1), (h.2, tt)))
          ∙ ap (λ (k : ℕ). accepted (k ∷ [])) (sym h.3)

  -- the buffer afterwards is exactly the octets, m of them
  pub write_octets : (m : ℕ) → to_bytes_outcome xs st flag buf ≡ accepted (m ∷ []) → to_bytes_buffer xs st flag buf ≡ fields (field_length flag) (take (2 * st.count) xs)
  write_octets m h = ap (λ (o : Outcome). lent o (fields (field_length flag) (take (2 * st.count) xs)) buf) h

  pub write_count : (m : ℕ) → to_bytes_outcome xs st flag buf ≡ accepted (m ∷ []) → length (to_bytes_buffer xs st flag buf) ≡ m
  write_count m h =
      let w = (write_accepted m).0 h in
      let g = good xs st.count (limit_of st.width) w.0 in
      ap length (write_octets m h) ∙ length-octets (field_length flag) st.count xs g.room ∙ sym w.3

  -- a buffer of another length is 6, whatever the numbers are
  pub write_mismatch : is_bad_store xs st.count (limit_of st.width) ≡ false → (length buf ≡ write_length st flag → ⊥)
      → to_bytes_outcome xs st flag buf ≡ refusing (refusal.BufferSizeMissmatch (write_length st flag) (length buf))
  write_mismatch e n = rw (e, ne_eqb (length buf) (write_length st flag) n)

  -- under a refusal the buffer stays as it was
  pub write_refused : ((to_bytes_outcome xs st flag buf).number ≡ 0 → ⊥) → to_bytes_buffer xs st flag buf ≡ buf
  write_refused n = lent_old (to_bytes_outcome xs st flag buf) (fields (field_length flag) (take (2 * st.count) xs)) buf n
