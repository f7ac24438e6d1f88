-- Octets added, in numbers of 64 bits: none is above M.
use mathlib.Core.Path.{◌≡◌, refl, sym, ap, ◌∙◌}
use mathlib.Core.Bool.{Bool, true, false, not, true≢false}
use mathlib.Core.List.{List, ◌++◌}
use mathlib.Core.Logic.{inl}
use Prim.Native.Nat.{ℕ, zero, suc, ◌+◌, ◌*◌, ◌-◌, ◌/◌, ◌^◌, ◌≤◌}
use native.Mathlib.Nat.{pow-le-pow_right}
use native.Mathlib.Omega.{arith}
use lib.Dec.{eqb}
use lib.ListN.{length, get_or, take, drop, length-take}
use borrow.Author.Tests.{eqb-true, eqb-false}
use Rattle.std.specs.Prelude.{Option, MatchOption}
use Rattle.std.specs.Bool.{then_some}
use Rattle.octets.specs.Flag.{field_length}
use Rattle.octets.specs.Octets.{number, AllOctets}
use Rattle.octets.proofs.Fields.{number-below, octets-take, octets-drop}
use Rattle.ranges.specs.Range.{Range, last_end}
use Rattle.ranges.specs.Store.{counted, wide_limit}
use Rattle.ranges.proofs.Last.{last-counted}
use Rattle.ranges.proofs.Covering.{append_covers}
use Rattle.nak.specs.declared.Edition.{Edition}
use Rattle.nak_parsing.specs.Parser.{requests_in, parsed_of}
use Rattle.nak_parsing.specs.Step.{requests_given}
use Rattle.holding.specs.Count.{count_below, is_covered, octets_below}
use Rattle.holding.proofs.Counting.{covered-set, count_same, lengths}
use Rattle.segment_store.specs.Coalesce.{maximal_runs}
use Rattle.segment_store.proofs.coalesce.Meaning.{runs_covers}
use Rattle.planning.specs.Tests.{asks_again}
use Rattle.planning.proofs.Adds.{Below, again_by_octets}
use Rattle.plan_packets.proofs.Given.{eight, given}
use Rattle.plan_passes.proofs.Runs.{covered_same}

-- a field of at most eight octets
small : (f : ℕ) (os : List ℕ) → f ≤ 8 → AllOctets os → number (take f os) ≤ wide_limit
small f os h a =
    let l = length-take f os in
    let p : 256 ^ length (take f os) ≤ 256 ^ 8 = pow-le-pow_right {n = 256} (omega arith) {i = length (take f os)} {j = 8} (omega arith) in
    let b = number-below (take f os) (octets-take f os a) in
    omega (arith, b, p)

-- more ranges have no fewer octets
count_more : (t u : ℕ → Bool) (n : ℕ) → ((x : ℕ) → t x ≡ true → u x ≡ true) → count_below t n ≤ count_below u n
count_more t u zero f = omega arith
count_more t u (suc n) f = go (t n) (u n) refl refl (count_more t u n f)
  where
    go : (a b : Bool) → t n ≡ a → u n ≡ b → count_below t n ≤ count_below u n → count_below t (suc n) ≤ count_below u (suc n)
    go true true k l i = rw (k, l) (omega arith)
    go true false k l i = absurd (true≢false (sym (f n k) ∙ l))
    go false true k l i = rw (k, l) (omega arith)
    go false false k l i = rw (k, l) (omega arith)

same_tests : (a b c d : ℕ) → (a ≡ b → c ≡ d) → (c ≡ d → a ≡ b) → eqb a b ≡ eqb c d
same_tests a b c d f g = go (eqb a b) (eqb c d) refl refl
  where
    go : (u v : Bool) → eqb a b ≡ u → eqb c d ≡ v → u ≡ v
    go true true e h = refl
    go false false e h = refl
    go true false e h = absurd (eqb-false c d h (f (eqb-true a b e)))
    go false true e h = absurd (eqb-false a b e (g (eqb-true c d h)))

-- a number is handed back unless an offset is asked for again
pub taken : {r : Option ℕ} {asks : Bool} (P Q : ℕ → Type 0) (b : Bool) (n : ℕ) → r ≡ then_some b n → not b ≡ asks → P n → Q n → MatchOption r (asks ≡ true) (λ m. (asks ≡ false) × P m × Q m)
taken P Q true n e f p q = rw e (sym f, p, q)
taken P Q false n e f p q = rw e (sym f)

module _ (M : ℕ) (top : wide_limit ≤ M) where
  -- the last end of counted pairs
  pub last_fits : (xs : List ℕ) (n : ℕ) → 2 * n ≤ length xs → ((i : ℕ) → get_or xs i 0 ≤ wide_limit) → last_end (counted xs n) ≤ M
  last_fits xs zero h f = omega arith
  last_fits xs (suc n) h f = let e = last-counted xs n h in omega (arith, e, f (2 * n + 1), top)

  requests-below : (f n : ℕ) (os : List ℕ) → f ≤ 8 → AllOctets os → Below M (requests_in f n os)
  requests-below f zero os h a = tt
  requests-below f (suc n) os h a =
      let s = small f (drop f os) h (octets-drop f os a) in
      (omega (arith, s, top), requests-below f n (drop (2 * f) os) h (octets-drop (2 * f) os a))

  given_below : (v : Edition) (p : List ℕ) → AllOctets p → Below M (requests_given v p)
  given_below v p a =
      let q = parsed_of v p in
      let f = field_length q.form.flag in
      let os = take (q.to - q.from) (drop q.from p) in
      rw (← given v p) (requests-below f (length os / (2 * f)) os (eight q.form.flag) (octets-take (q.to - q.from) (drop q.from p) (octets-drop q.from p a)))

  runs-octets : (qs : List Range) → octets_below M (maximal_runs qs) ≡ octets_below M qs
  runs-octets qs = count_same (is_covered (maximal_runs qs)) (is_covered qs) M (λ x l. covered_same (maximal_runs qs) qs (λ y. runs_covers y qs) x)

  -- the octets before, and those once the requests of the packet p have joined
  module _ (v : Edition) (p : List ℕ) (qs : List Range) where
    abbrev rs : List Range
    rs = requests_given v p

    pub no-fewer : octets_below M qs ≤ octets_below M (maximal_runs (qs ++ rs))
    no-fewer =
        rw (runs-octets (qs ++ rs))
        (count_more (is_covered qs) (is_covered (qs ++ rs)) M (λ x h. (covered-set (qs ++ rs) x).1 (append_covers x qs rs (inl ((covered-set qs x).0 h)))))

    pub again-added : AllOctets p → (before after : ℕ) → before ≡ octets_below M qs → after ≡ octets_below M (maximal_runs (qs ++ rs))
        → not (eqb (lengths rs) (after - before)) ≡ asks_again qs rs
    again-added all before after b a =
        let o : ℕ = octets_below M qs in
        let w : ℕ = octets_below M (qs ++ rs) in
        let e : after ≡ w = a ∙ runs-octets (qs ++ rs) in
        let n : o ≤ w = rw (runs-octets (qs ++ rs)) at no-fewer in
        ap not (same_tests (lengths rs) (after - before) (o + lengths rs) w (λ k. omega (arith, k, e, b, n)) (λ k. omega (arith, k, e, b, n)))
        ∙ sym (again_by_octets M qs rs (given_below v p all))
