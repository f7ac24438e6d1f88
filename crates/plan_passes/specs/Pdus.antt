-- The PDUs as a plan, and what a pass over them finds.
use Rattle.std.specs.Prelude.{ℕ, ◌≡◌, ◌<◌, Bool, MatchOption, Option}
use Rattle.planning.specs.Plan.{Plan, plan}
use Rattle.planning.specs.Tests.{first_below}
use Rattle.plan_passes.specs.declared.inner.pdus.Pdus.{Pdus}

abbrev pub plan_of : Pdus → Plan
plan_of p = plan p.edition p.lengths.now p.buf.now

-- The first of n that passes the test, if there is one.
abbrev pub IsFirst : (ℕ → Bool) → ℕ → Option ℕ → Type 0
IsFirst t n r = MatchOption r (first_below t n ≡ n) (λ k. (k ≡ first_below t n) × (k < n))
