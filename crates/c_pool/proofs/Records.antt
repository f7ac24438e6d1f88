-- The eight records that C's stand for: one of them, and C's with another in its place.
use mathlib.Core.Path.{◌≡◌, refl, sym, ap, ◌∙◌}
use mathlib.Core.List.{List, [], ◌∷◌, map}
use Prim.Native.Nat.{ℕ, zero, suc, ◌+◌, ◌≤◌, ◌<◌}
use native.Mathlib.Omega.{arith}
use lib.ListN.{length, get_or, set, length-set, get_or-map}
use Rattle.reception.specs.declared.Reception.{Reception}
use Rattle.pooling.specs.declared.Pool.{Pool}
use Rattle.pooling.specs.Pool.{most_transfers, nowhere, record_at}
use Rattle.pooling.specs.Pool.{with_record as pool_with}
use Rattle.c_values.specs.declared.PusmarkeReception.{PusmarkeReception}
use Rattle.c_values.specs.Input.{record_in}
use Rattle.c_pool.specs.declared.PusmarkePool.{PusmarkePool}
use Rattle.c_pool.specs.Input.{no_record, record_of, records_in, pool_in}
use Rattle.c_pool.specs.Output.{with_record}

shift : (x : PusmarkeReception) (rs : List PusmarkeReception) (k n : ℕ) → records_in (x ∷ rs) (suc k) n ≡ records_in rs k n
shift x rs k zero = refl
shift x rs k (suc n) = ap (λ (qs : List Reception). record_in (get_or rs k no_record) ∷ qs) (shift x rs (suc k) n)

mapped : (rs : List PusmarkeReception) (n : ℕ) → length rs ≡ n → records_in rs 0 n ≡ map record_in rs
mapped [] zero e = refl
mapped [] (suc n) e = absurd (omega (arith, e))
mapped (x ∷ rs) zero e = absurd (omega (arith, e))
mapped (x ∷ rs) (suc n) e = ap (λ (qs : List Reception). record_in x ∷ qs) (shift x rs 0 n ∙ mapped rs n (omega (arith, e)))

map-set : (rs : List PusmarkeReception) (i : ℕ) (r : PusmarkeReception) → map record_in (set rs i r) ≡ set (map record_in rs) i (record_in r)
map-set [] i r = refl
map-set (x ∷ rs) zero r = refl
map-set (x ∷ rs) (suc i) r = ap (λ (qs : List Reception). record_in x ∷ qs) (map-set rs i r)

module _ (c : PusmarkePool) (eight : length c.records ≡ most_transfers) where
  all : records_in c.records 0 most_transfers ≡ map record_in c.records
  all = mapped c.records most_transfers eight

  pub record-in : (i : ℕ) → record_at (pool_in c) i ≡ record_in (record_of c i)
  record-in i = ap (λ (qs : List Reception). get_or qs i nowhere) all ∙ get_or-map record_in c.records i no_record

  pub with_in : (i : ℕ) (r : PusmarkeReception) → pool_in (with_record c i r) ≡ pool_with (pool_in c) i (record_in r)
  with_in i r =
      let e = mapped (set c.records i r) most_transfers (length-set c.records i r ∙ eight)
      ∙ map-set c.records i r
      ∙ sym (ap (λ (qs : List Reception). set qs i (record_in r)) all) in
      ap (λ (qs : List Reception). record { used = c.used; records = qs; floors = c.floors; limits = c.limits }) e
