-- The pool that C begins with, and the one after each transfer added: a fresh pool, with the settings that were handed over.
use mathlib.Core.Path.{◌≡◌, refl, sym, ap, ◌∙◌}
use mathlib.Core.Bool.{Bool, cond}
use mathlib.Core.List.{List}
use mathlib.Core.Logic.{◌⊎◌, ⊎_elim}
use Prim.Native.Nat.{ℕ, suc, ◌≤◌, ◌<◌}
use native.Mathlib.Nat.{eq-or-lt_of_le}
use native.Mathlib.Omega.{arith}
use borrow.Author.Tests.{lt-ltb, le-ltb}
use lib.ListN.{length, length-set}
use lib.Seq.{get_or-set_same, get_or-set_other}
use Rattle.outcomes.specs.Refusal.{refusing}
use Rattle.outcomes.specs.declared.Refusal.TheVariants as refusal
use Rattle.reception.specs.declared.Reception.{Reception}
use Rattle.reception.specs.Record.{fresh_record}
use Rattle.reception.specs.History.{Event}
use Rattle.pooling.specs.Pool.{most_transfers, record_at, floor_at, limit_at, is_bad_settings}
use Rattle.pooling.specs.Events.{event_outcome}
use Rattle.pooling.specs.History.{Fresh}
use Rattle.c_values.specs.declared.PusmarkeReception.{PusmarkeReception}
use Rattle.c_values.specs.Input.{width_in, record_in}
use Rattle.c_values.specs.Output.{record_out}
use Rattle.c_pool.specs.declared.PusmarkePool.{PusmarkePool}
use Rattle.c_pool.specs.Input.{no_record, record_of, pool_in}
use Rattle.c_pool.specs.Output.{empty_pool, one_more, too_many, added}
use Rattle.c_pool.proofs.Records.{record-in}

pub empty_fresh : Fresh (pool_in empty_pool)
empty_fresh = record { eight = refl; each = λ k l. absurd (omega (arith, l)) }

module _ (c : PusmarkePool) (narrow floor limit : ℕ) (room : c.used < most_transfers) where
  abbrev next : PusmarkePool
  next = one_more c narrow floor limit

  abbrev fresh : PusmarkeReception
  fresh = record_out narrow (fresh_record (width_in narrow))

  pub added_is : added c narrow floor limit ≡ next
  added_is = ap (λ (b : Bool). cond b next (too_many c)) (lt-ltb c.used most_transfers room)

  pub floor-is : length c.floors ≡ most_transfers → floor_at (pool_in next) c.used ≡ floor
  floor-is l = get_or-set_same c.floors c.used floor 0 (omega (arith, l, room))

  pub limit_is : length c.limits ≡ most_transfers → limit_at (pool_in next) c.used ≡ limit
  limit_is l = get_or-set_same c.limits c.used limit 0 (omega (arith, l, room))

  module _ (eight : length c.records ≡ most_transfers) where
    at : (k : ℕ) → record_at (pool_in next) k ≡ record_in (record_of next k)
    at k = record-in next (length-set c.records c.used fresh ∙ eight) k

    last : (k : ℕ) → k ≡ c.used → record_at (pool_in next) k ≡ fresh_record (width_in narrow)
    last k e =
        at k
        ∙ ap (λ (j : ℕ). record_in (record_of next j)) e
        ∙ ap record_in (get_or-set_same c.records c.used fresh no_record (omega (arith, eight, room)))

    other : (k : ℕ) → k < c.used → record_at (pool_in next) k ≡ record_at (pool_in c) k
    other k l =
        at k
        ∙ ap record_in (get_or-set_other c.records c.used k fresh no_record (λ (e : k ≡ c.used). omega (arith, l, e)))
        ∙ sym (record-in c eight k)

    pub added-fresh : Fresh (pool_in c) → Fresh (pool_in next)
    added-fresh f =
        record {
          eight = refl;
          each = λ (k : ℕ) (l : k < suc c.used). ⊎_elim
              (λ (e : k ≡ c.used). last k e ∙ ap (λ (r : Reception). fresh_record r.width) (sym (last k e)))
              (λ (m : k < c.used). other k m ∙ f.each k m ∙ ap (λ (r : Reception). fresh_record r.width) (sym (other k m)))
              (eq-or-lt_of_le (omega (arith, l)));
        }

-- a ninth transfer makes a pool that every event of every transfer is refused by 23
pub ninth_refused : (c : PusmarkePool) (narrow floor limit : ℕ) (xs : List ℕ) (i : ℕ) (e : Event) → most_transfers ≤ c.used
    → event_outcome (pool_in (added c narrow floor limit)) xs i e ≡ refusing refusal.BadPool
unfolding is_bad_settings
ninth_refused c narrow floor limit xs i e h =
    ap (λ (b : Bool). event_outcome (pool_in (cond b (one_more c narrow floor limit) (too_many c))) xs i e) (le-ltb c.used most_transfers h)
