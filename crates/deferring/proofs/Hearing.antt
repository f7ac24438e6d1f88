-- What a call makes of the timer, from what it has at hand: whether the event was taken, the record afterwards, its count for the octets
-- missing, and whether there was news where that matters.
use mathlib.Core.Path.{◌≡◌, refl, sym, ap, ◌∙◌}
use mathlib.Core.Bool.{Bool, true, false, ◌&&◌, ◌||◌, cond, true≢false}
use mathlib.Core.List.{List, []}
use Prim.Native.Nat.{ℕ}
use lib.Dec.{ltb, eqb}
use Rattle.std.specs.Prelude.{Result, Ok, Err, ⊤, is_ok}
use Rattle.outcomes.specs.Outcome.{Outcome, accepted}
use Rattle.outcomes.specs.Answered.{answered}
use Rattle.outcomes.specs.declared.Refusal.{Refusal}
use Rattle.outcomes.proofs.Refusals.{refuses}
use Rattle.outcomes.specs.Checks.{Check, first_of, NoneOf, verdict_case}
use Rattle.outcomes.proofs.FirstOf.{first-accepted, none_of}
use Rattle.reception.specs.declared.Reception.{Reception}
use Rattle.reception.specs.Record.{record_checks, Passed}
use Rattle.reception.specs.Metadata.{mark_checks, metadata_checks}
use Rattle.reception.specs.History.{Event, Data, Metadata, Eof, State, is_accepted, step}
use Rattle.reception.proofs.Sound.{none-split}
use Rattle.reception.proofs.data.Accepted.{taken}
use Rattle.reception.proofs.eof.Accepted.{eof_taken}
use Rattle.deferring.specs.declared.Activity.{Activity}
use Rattle.deferring.specs.declared.Activity.TheVariants as activity
use Rattle.deferring.specs.declared.Deferred.{Deferred}
use Rattle.deferring.specs.Hear.{is_due, is_news, judged_as, judged, heard}
use Rattle.deferring.proofs.Lasting.{passed-after}
use Rattle.deferring.proofs.Lowering.{any_missing}

-- an answer is a value exactly if its outcome has the number 0
pub ok_accepted : {A : Type 0} (values : A → List ℕ) (r : Result A Refusal) (o : Outcome) → answered values r ≡ o → is_ok r ≡ eqb o.number 0
ok_accepted {A = A} values r o e = go r ∙ ap (λ (o : Outcome). eqb o.number 0) e
  where
    go : (r : Result A Refusal) → is_ok r ≡ eqb (answered values r).number 0
    go (Ok a) = refl
    go (Err q) = sym (refuses q)

-- checks that answer a value are passed
pub ok-passed : (cs : List Check) (v : Result ⊤ Refusal) → verdict_case v ≡ first_of cs (accepted []) → is_ok v ≡ true → NoneOf cs
ok-passed cs (Ok u) e f = none_of cs e
ok-passed cs (Err r) e f = absurd (true≢false (sym f))

-- an accepted event finds a sound record
pub accepted-passed : (s : State) (e : Event) → is_accepted s e ≡ true → Passed s.list s.rec
accepted-passed s (Data o n) f = (taken s.rec s.list o n f).checks.passed
accepted-passed s Metadata f = (none-split (record_checks s.rec s.list) (mark_checks s.rec) (first-accepted (metadata_checks s.rec s.list) (accepted []) f).0).0
accepted-passed s (Eof z) f = (eof_taken s.rec s.list z f).checks.passed

-- the test by the count
abbrev pub is_due_by_count : Reception → Bool
is_due_by_count rec = rec.sized && (rec.missing || ltb 0 rec.count)

pub due_by_count : (rec : Reception) (xs : List ℕ) → Passed xs rec → is_due_by_count rec ≡ is_due rec xs
due_by_count rec xs p = ap (λ (b : Bool). rec.sized && (rec.missing || b)) (sym (any_missing xs rec p))

-- news matters only where the timer is active and stays so
news_where : (a : Activity) (due : Bool) (n m : Bool) (t : Deferred) → (a ≡ activity.Active → due ≡ true → n ≡ m) → judged_as a due n t ≡ judged_as a due m t
news_where activity.Idle due n m t f = refl
news_where activity.Active true n m t f = rw (f refl refl)
news_where activity.Active false n m t f = refl
news_where activity.Deaf due n m t f = refl

-- an active timer is due only where the size is known
sized_due : (rec : Reception) (xs : List ℕ) → is_due rec xs ≡ true → rec.sized ≡ true
sized_due rec xs e = go rec.sized refl
  where
    go : (t : Bool) → rec.sized ≡ t → rec.sized ≡ true
    go true f = f
    go false f = absurd (true≢false (sym (rw f at e)))

pub heard_by : (t : Deferred) (s : State) (e : Event) (took news : Bool) (after : Reception) → took ≡ is_accepted s e → after ≡ (step s e).rec
    → (is_accepted s e ≡ true → t.activity ≡ activity.Active → (step s e).rec.sized ≡ true → news ≡ is_news s e)
    → cond took (judged (is_due_by_count after) news t) t ≡ heard t s e
heard_by t s e took news after a b f = go (is_accepted s e) refl
  where
    go : (u : Bool) → is_accepted s e ≡ u → cond took (judged (is_due_by_count after) news t) t ≡ heard t s e
    go true g =
        let p = passed-after s (accepted-passed s e g) e in
        let d : is_due_by_count after ≡ is_due (step s e).rec (step s e).list = ap is_due_by_count b ∙ due_by_count (step s e).rec (step s e).list p in
        let w = news_where t.activity (is_due (step s e).rec (step s e).list) news (is_news s e) t (λ h k. f g h (sized_due (step s e).rec (step s e).list k)) in
        let v : cond took (judged (is_due_by_count after) news t) t ≡ judged (is_due (step s e).rec (step s e).list) (is_news s e) t =
        rw (a ∙ g) (ap (λ (b : Bool). judged b news t) d ∙ w) in
        v ∙ rw g
    go false g = rw (a ∙ g, g)
