-- The pool that the host begins with is a fresh one; its records are told one by one.
use mathlib.Core.Path.{◌≡◌, refl, ap, ap₂, ◌∙◌}
use mathlib.Core.List.{List, [], ◌∷◌}
use Prim.Native.Nat.{ℕ, zero, suc, ◌+◌, ◌≤◌, ◌<◌}
use native.Mathlib.Omega.{arith}
use lib.ListN.{length, get_or}
use Rattle.ranges.specs.declared.Width.{Width}
use Rattle.ranges.specs.declared.Width.TheVariants.{Wide}
use Rattle.reception.specs.declared.Reception.{Reception}
use Rattle.reception.specs.Record.{fresh_record}
use Rattle.pooling.specs.Pool.{most_transfers, nowhere, fresh_records, fresh_pool}
use Rattle.pooling.specs.History.{Fresh}

fresh_at : (ws : List Width) (j n k : ℕ) → k < n → get_or (fresh_records ws j n) k nowhere ≡ fresh_record (get_or (fresh_records ws j n) k nowhere).width
fresh_at ws j zero k l = absurd (omega (arith, l))
fresh_at ws j (suc n) zero l = refl
fresh_at ws j (suc n) (suc k) l = fresh_at ws (suc j) n k (omega (arith, l))

pub fresh-pool : (used : ℕ) (ws : List Width) (floors limits : List ℕ) → used ≤ most_transfers → Fresh (fresh_pool used ws floors limits)
fresh-pool used ws floors limits h = record { eight = refl; each = λ k l. fresh_at ws 0 most_transfers k (omega (arith, l, h)) }

pub fresh-records : (ws : List Width) (rs : List Reception) (j n : ℕ) → length rs ≡ n
    → ((i : ℕ) → i < n → get_or rs i nowhere ≡ fresh_record (get_or ws (j + i) Wide)) → rs ≡ fresh_records ws j n
fresh-records ws [] j zero h e = refl
fresh-records ws [] j (suc n) h e = absurd (omega (arith, h))
fresh-records ws (r ∷ rs) j zero h e = absurd (omega (arith, h))
fresh-records ws (r ∷ rs) j (suc n) h e =
    let same : (k m : ℕ) → k ≡ m → fresh_record (get_or ws k Wide) ≡ fresh_record (get_or ws m Wide) = λ k m q. ap (λ (k : ℕ). fresh_record (get_or ws k Wide)) q in
    ap₂ (λ (r : Reception) (rs : List Reception). r ∷ rs) (e 0 (omega arith) ∙ same (j + 0) j (omega arith))
    (fresh-records ws rs (suc j) n (omega (arith, h)) (λ i l. e (suc i) (omega (arith, l)) ∙ same (j + suc i) (suc j + i) (omega arith)))
