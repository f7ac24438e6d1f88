-- Which accepted events lower the number of missing octets: with the size known, data that has an offset in common with the list, once the
-- metadata is known; and no end of file.
use mathlib.Core.Path.{◌≡◌, refl, sym, ap, ◌∙◌}
use mathlib.Core.Bool.{Bool, true, false, ◌&&◌, not, true≢false}
use mathlib.Core.List.{List, [], ◌∷◌}
use mathlib.Core.Logic.{◌⊎◌, inl, inr, ⊎_elim}
use Prim.Native.Nat.{ℕ, zero, suc, ◌+◌, ◌≤◌, ◌<◌}
use native.Mathlib.Omega.{arith}
use native.Mathlib.Decide.{dec_lt}
use lib.ListN.{length}
use lib.Dec.{ltb}
use borrow.Author.Tests.{lt-ltb, le-ltb, ltb-false}
use Rattle.ranges.specs.Range.{Range, range, In, Covers, Above, some, shares}
use Rattle.ranges.proofs.Flat.{length-counted}
use Rattle.ranges.proofs.Some.{shares-set}
use Rattle.reception.specs.declared.Reception.{Reception}
use Rattle.ranges.specs.Store.{counted}
use Rattle.reception.specs.Record.{Passed}
use Rattle.reception.specs.History.{Event, Data, Eof, State, is_accepted, step, kept_by, ranges_of}
use Rattle.reception.proofs.Sound.{sound}
use Rattle.reception.proofs.data.Accepted.{taken}
use Rattle.reception.proofs.eof.Accepted.{eof_taken}
use Rattle.holding.specs.Count.{count_below, is_covered}
use Rattle.holding.specs.MissingOctets.{missing_octets}
use Rattle.holding.proofs.Counting.{covered-set, lengths, lengths-below}
use Rattle.deferring.specs.Hear.{is_lowered}
use Rattle.deferring.proofs.Lasting.{Had, holds-sound, holds_after}

-- a list of nonempty ranges has an octet exactly if it has a range
some-octets : (d : ℕ) (rs : List Range) → Above d rs → ltb 0 (lengths rs) ≡ ltb 0 (length rs)
some-octets d [] s = refl
some-octets d (r ∷ rs) s = lt-ltb 0 (lengths (r ∷ rs)) (omega (arith, s.1)) ∙ sym (lt-ltb 0 (suc (length rs)) (omega arith))

-- so a sound record misses octets exactly if it counts a range
pub any_missing : (xs : List ℕ) (rec : Reception) → Passed xs rec → ltb 0 (missing_octets rec xs) ≡ ltb 0 rec.count
any_missing xs rec p =
    let k = sound xs rec p in
    ap (ltb 0) (lengths-below 0 rec.progress (counted xs rec.count) k.whole k.above)
    ∙ some-octets 0 (counted xs rec.count) k.whole
    ∙ ap (ltb 0) (length-counted xs rec.count k.store.room)

-- a test that is met wherever another is counts at least as much
count_le : (t u : ℕ → Bool) (n : ℕ) → ((x : ℕ) → x < n → t x ≡ true → u x ≡ true) → count_below t n ≤ count_below u n
count_le t u zero f = omega arith
count_le t u (suc n) f = go (t n) (u n) refl refl (count_le t u n (λ x h. f x (omega arith)))
  where
    go : (a b : Bool) → t n ≡ a → u n ≡ b → count_below t n ≤ count_below u n → count_below t (suc n) ≤ count_below u (suc n)
    go true true k l i = rw (k, l) (omega arith)
    go true false k l i = absurd (true≢false (sym (f n (omega arith) k) ∙ l))
    go false true k l i = rw (k, l) (omega arith)
    go false false k l i = rw (k, l) (omega arith)

-- and more where it is met once more
count_lt : (t u : ℕ → Bool) (n : ℕ) → ((x : ℕ) → x < n → t x ≡ true → u x ≡ true) → (y : ℕ) → y < n → t y ≡ false → u y ≡ true → count_below t n < count_below u n
count_lt t u zero f y h a b = absurd (omega arith)
count_lt t u (suc n) f y h a b = go (t n) (u n) refl refl (dec_lt y n) (count_le t u n (λ x h. f x (omega arith))) (count_lt t u n (λ x h. f x (omega arith)) y)
  where
    go : (c d : Bool) → t n ≡ c → u n ≡ d → Dec (y < n) → count_below t n ≤ count_below u n
        → (y < n → t y ≡ false → u y ≡ true → count_below t n < count_below u n) → count_below t (suc n) < count_below u (suc n)
    go true false k l e i j = absurd (true≢false (sym (f n (omega arith) k) ∙ l))
    go true true k l (yes e) i j = let m = j e a b in rw (k, l) (omega arith)
    go true true k l (no e) i j = let q : y ≡ n = omega arith in absurd (true≢false (sym k ∙ ap t (sym q) ∙ a))
    go false true k l e i j = rw (k, l) (omega arith)
    go false false k l (yes e) i j = let m = j e a b in rw (k, l) (omega arith)
    go false false k l (no e) i j = let q : y ≡ n = omega arith in absurd (true≢false (sym b ∙ ap u q ∙ l))

-- a number below which more is counted
count_more : (t : ℕ → Bool) (n m : ℕ) → n ≤ m → count_below t n ≤ count_below t m
count_more t n zero h = let e : n ≡ zero = omega arith in rw e (omega arith)
count_more t n (suc m) h = go (dec_lt m n) (t m) refl (count_more t n m)
  where
    go : Dec (m < n) → (a : Bool) → t m ≡ a → (n ≤ m → count_below t n ≤ count_below t m) → count_below t n ≤ count_below t (suc m)
    go (yes l) a k i = let e : n ≡ suc m = omega arith in rw e (omega arith)
    go (no l) true k i = let j = i (omega arith) in rw k (omega arith)
    go (no l) false k i = let j = i (omega arith) in rw k j

-- accepted data keeps its offsets once the metadata is known
own-kept : (t m : Bool) (o n x : ℕ) → t ≡ true → m ≡ false → In x (range o (o + n)) → Covers x (kept_by (t && not m) (Data o n) [])
own-kept t m o n x e f i = rw (e, f) (inl i)

module _ (s : State) (p : Passed s.list s.rec) where
  -- where every offset of the list stays in it, and progress does not fall, nothing is lowered
  stays : (e : Event) → s.rec.progress ≤ (step s e).rec.progress → ((x : ℕ) → Covers x (ranges_of s) → Covers x (ranges_of (step s e))) → is_lowered s e ≡ false
  stays e h f =
      let a = count_le (is_covered (ranges_of s)) (is_covered (ranges_of (step s e))) s.rec.progress (λ x l c. (covered-set (ranges_of (step s e)) x).1 (f x ((covered-set (ranges_of s) x).0 c))) in
      let b = count_more (is_covered (ranges_of (step s e))) s.rec.progress (step s e).rec.progress h in
      le-ltb (missing_octets (step s e).rec (step s e).list) (missing_octets s.rec s.list) (omega (arith, a, b))

  -- an offset of the list that the event does not keep stays, if progress does not fall
  keeps : (e : Event) (x : ℕ) → s.rec.progress ≤ (step s e).rec.progress → Covers x (ranges_of s)
      → (Covers x (kept_by (is_accepted s e && not s.rec.missing) e []) → ⊥) → Covers x (ranges_of (step s e))
  keeps e x h c n =
      let b = (((holds-sound s p).exact x).0 c).0 in
      ((holds_after s p e).exact x).1 (omega (arith, b, h), ⊎_elim n (λ (k : Had s p x). k.1 c))

  -- an accepted end of file lowers nothing
  pub eof_never : (z : ℕ) → is_accepted s (Eof z) ≡ true → is_lowered s (Eof z) ≡ false
  eof_never z f = stays (Eof z) grown (λ x c. keeps (Eof z) x grown c (none x (is_accepted s (Eof z) && not s.rec.missing)))
    where
      grown : s.rec.progress ≤ (step s (Eof z)).rec.progress
      grown = rw f (eof_taken s.rec s.list z f).above

      none : (x : ℕ) (t : Bool) → Covers x (kept_by t (Eof z) []) → ⊥
      none x true c = c
      none x false c = c

  module _ (o n : ℕ) (f : is_accepted s (Data o n) ≡ true) (sized : s.rec.sized ≡ true) where
    -- the data ends at the size or before, which is progress
    pub inside : o + n ≤ s.rec.progress
    inside =
        let k = (taken s.rec s.list o n f).checks.within in
        let u : o + n ≤ s.rec.size = ltb-false _ _ (rw sized at k) in
        omega (arith, u, (sound s.list s.rec p).told sized)

    pub nonempty : o < o + n
    nonempty = omega (arith, (taken s.rec s.list o n f).checks.some)

    same : (step s (Data o n)).rec.progress ≡ s.rec.progress
    same = rw f (omega (arith, inside))

    waits : s.rec.missing ≡ true → is_lowered s (Data o n) ≡ false
    waits m = stays (Data o n) (omega (arith, same)) (λ x c. keeps (Data o n) x (omega (arith, same)) c (none x))
      where
        none : (x : ℕ) → Covers x (kept_by (is_accepted s (Data o n) && not s.rec.missing) (Data o n) []) → ⊥
        none x c = rw (f, m) at c

    apart : s.rec.missing ≡ false → some (shares o (o + n)) (ranges_of s) ≡ false → is_lowered s (Data o n) ≡ false
    apart m d = stays (Data o n) (omega (arith, same)) (λ x c. keeps (Data o n) x (omega (arith, same)) c (none x c))
      where
        none : (x : ℕ) → Covers x (ranges_of s) → Covers x (kept_by (is_accepted s (Data o n) && not s.rec.missing) (Data o n) []) → ⊥
        none x c k =
            let w : Covers x (range o (o + n) ∷ []) = rw (f, m) at k in
            ⊎_elim (λ (i : In x (range o (o + n))). true≢false (sym ((shares-set o (o + n) nonempty (ranges_of s) (sound s.list s.rec p).whole).1 (x, i, c)) ∙ d)) absurd w

    common : s.rec.missing ≡ false → some (shares o (o + n)) (ranges_of s) ≡ true → is_lowered s (Data o n) ≡ true
    common m d = rw same (lt-ltb _ _ fewer)
      where
        y : (x : ℕ) × In x (range o (o + n)) × Covers x (ranges_of s)
        y = (shares-set o (o + n) nonempty (ranges_of s) (sound s.list s.rec p).whole).0 d

        was : (x : ℕ) → Covers x (ranges_of (step s (Data o n))) → Covers x (ranges_of s)
        was x c = go (is_covered (ranges_of s) x) refl (((holds_after s p (Data o n)).exact x).0 c)
          where
            go : (t : Bool) → is_covered (ranges_of s) x ≡ t
                → (x < (step s (Data o n)).rec.progress) × ((Covers x (kept_by (is_accepted s (Data o n) && not s.rec.missing) (Data o n) []) ⊎ Had s p x) → ⊥) → Covers x (ranges_of s)
            go true e w = (covered-set (ranges_of s) x).0 e
            go false e w = absurd (w.1 (inr (omega (arith, w.0, same), λ k. true≢false (sym ((covered-set (ranges_of s) x).1 k) ∙ e))))

        gone : Covers y.0 (ranges_of (step s (Data o n))) → ⊥
        gone c = (((holds_after s p (Data o n)).exact y.0).0 c).1 (inl (own-kept (is_accepted s (Data o n)) s.rec.missing o n y.0 f m y.1))

        untold : (t : Bool) → is_covered (ranges_of (step s (Data o n))) y.0 ≡ t → t ≡ false
        untold true e = absurd (gone ((covered-set (ranges_of (step s (Data o n))) y.0).0 e))
        untold false e = refl

        fewer : count_below (is_covered (ranges_of (step s (Data o n)))) s.rec.progress < count_below (is_covered (ranges_of s)) s.rec.progress
        fewer =
            count_lt (is_covered (ranges_of (step s (Data o n)))) (is_covered (ranges_of s)) s.rec.progress
            (λ x h c. (covered-set (ranges_of s) x).1 (was x ((covered-set (ranges_of (step s (Data o n))) x).0 c)))
            y.0 (omega (arith, y.1.1, inside)) (untold (is_covered (ranges_of (step s (Data o n))) y.0) refl) ((covered-set (ranges_of s) y.0).1 y.2)

    -- accepted data lowers the missing octets exactly if the metadata is known and an offset of the data is in the list
    pub data-lowers : is_lowered s (Data o n) ≡ (not s.rec.missing && some (shares o (o + n)) (ranges_of s))
    data-lowers = go s.rec.missing (some (shares o (o + n)) (ranges_of s)) refl refl
      where
        go : (m d : Bool) → s.rec.missing ≡ m → some (shares o (o + n)) (ranges_of s) ≡ d → is_lowered s (Data o n) ≡ (not m && d)
        go true d e k = waits e
        go false true e k = common e k
        go false false e k = apart e k
