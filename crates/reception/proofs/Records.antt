-- What any list of events leaves in the record: a refused event leaves everything as it was; progress is the largest accepted end, the
-- mark is clear exactly if a metadata event was accepted, the width is the one that the reception began with, and the size the one
-- that an accepted EOF told.
use mathlib.Core.Path.{◌≡◌, refl, sym, ap, ◌∙◌}
use mathlib.Core.Bool.{Bool, true, false, ◌||◌, not, cond}
use mathlib.Core.List.{List, [], ◌∷◌}
use Prim.Native.Nat.{ℕ, max}
use native.Mathlib.Omega.{arith}
use Rattle.ranges.specs.declared.Width.{Width}
use Rattle.ranges.proofs.Test.{or-none}
use Rattle.reception.specs.declared.Reception.{Reception}
use Rattle.reception.proofs.eof.Accepted.{eof_taken}
use Rattle.reception.specs.History.{Event, Data, Metadata, Eof, State, fresh, is_accepted, step, run, is_metadata_come, metadata_came, end_by, largest_end, size_by, told_size}

-- a refused event leaves the reception as it was
pub refused-same : (s : State) (e : Event) → is_accepted s e ≡ false → step s e ≡ s
refused-same s (Data o z) f = rw f
refused-same s Metadata f = rw f
refused-same s (Eof z) f = rw f

-- so the history goes on as if it had not come
pub refused_gone : (s : State) (e : Event) (es : List Event) → is_accepted s e ≡ false → run s (e ∷ es) ≡ run s es
refused_gone s e es f = ap (λ (t : State). run t es) (refused-same s e f)

-- progress: one event, and a list of them
pub step-progress : (s : State) (e : Event) → (step s e).rec.progress ≡ end_by (is_accepted s e) e s.rec.progress
step-progress s e = go e (is_accepted s e) refl
  where
    go : (e : Event) (t : Bool) → is_accepted s e ≡ t → (step s e).rec.progress ≡ end_by (is_accepted s e) e s.rec.progress
    go (Data o z) true f = rw f (omega arith)
    go (Data o z) false f = rw f
    go Metadata true f = rw f
    go Metadata false f = rw f
    go (Eof z) true f = let k = (eof_taken s.rec s.list z f).above in rw f (omega arith)
    go (Eof z) false f = rw f

pub larger_end : (t : Bool) (e : Event) (p l : ℕ) → max (end_by t e p) l ≡ max p (end_by t e l)
larger_end true (Data o z) p l = omega arith
larger_end true Metadata p l = refl
larger_end true (Eof z) p l = omega arith
larger_end false e p l = refl

progress-from : (es : List Event) (s : State) → (run s es).rec.progress ≡ max s.rec.progress (largest_end s es)
progress-from [] s = omega arith
progress-from (e ∷ es) s =
    progress-from es (step s e)
    ∙ ap (λ (p : ℕ). max p (largest_end (step s e) es)) (step-progress s e)
    ∙ larger_end (is_accepted s e) e s.rec.progress (largest_end (step s e) es)

-- progress is the largest accepted end
pub progress-largest : (w : Width) (xs : List ℕ) (es : List Event) → (run (fresh w xs) es).rec.progress ≡ largest_end (fresh w xs) es
progress-largest w xs es = let k = progress-from es (fresh w xs) in omega arith

-- the mark: one event, and a list of them; `known` says that the metadata came before
pub step_mark : (s : State) (e : Event) (known : Bool) → s.rec.missing ≡ not known → (step s e).rec.missing ≡ not (known || is_metadata_come s e)
step_mark s e known g = go e (is_accepted s e) refl known g
  where
    go : (e : Event) (t : Bool) → is_accepted s e ≡ t → (k : Bool) → s.rec.missing ≡ not k → (step s e).rec.missing ≡ not (k || is_metadata_come s e)
    go (Data o z) true f true g = rw f g
    go (Data o z) true f false g = rw f g
    go (Data o z) false f true g = rw f g
    go (Data o z) false f false g = rw f g
    go Metadata true f true g = rw f
    go Metadata true f false g = rw f
    go Metadata false f true g = rw f g
    go Metadata false f false g = rw f g
    go (Eof z) true f true g = rw f g
    go (Eof z) true f false g = rw f g
    go (Eof z) false f true g = rw f g
    go (Eof z) false f false g = rw f g

pub or_assoc : (a b c : Bool) → ((a || b) || c) ≡ (a || (b || c))
or_assoc true b c = refl
or_assoc false b c = refl

mark_from : (es : List Event) (s : State) (known : Bool) → s.rec.missing ≡ not known → (run s es).rec.missing ≡ not (known || metadata_came s es)
mark_from [] s known g = g ∙ ap not (sym (or-none known))
mark_from (e ∷ es) s known g =
    mark_from es (step s e) (known || is_metadata_come s e) (step_mark s e known g)
    ∙ ap not (or_assoc known (is_metadata_come s e) (metadata_came (step s e) es))

-- the mark is clear exactly if a metadata event was accepted
pub mark_metadata : (w : Width) (xs : List ℕ) (es : List Event) → (run (fresh w xs) es).rec.missing ≡ not (metadata_came (fresh w xs) es)
mark_metadata w xs es = mark_from es (fresh w xs) false refl

-- the width: one event, and a list of them
pub step_width : (s : State) (e : Event) → (step s e).rec.width ≡ s.rec.width
step_width s e = go e (is_accepted s e) refl
  where
    go : (e : Event) (t : Bool) → is_accepted s e ≡ t → (step s e).rec.width ≡ s.rec.width
    go (Data o z) true f = rw f
    go (Data o z) false f = rw f
    go Metadata true f = rw f
    go Metadata false f = rw f
    go (Eof z) true f = rw f
    go (Eof z) false f = rw f

width_from : (es : List Event) (s : State) → (run s es).rec.width ≡ s.rec.width
width_from [] s = refl
width_from (e ∷ es) s = width_from es (step s e) ∙ step_width s e

-- the width never changes
pub width_same : (w : Width) (xs : List ℕ) (es : List Event) → (run (fresh w xs) es).rec.width ≡ w
width_same w xs es = width_from es (fresh w xs)

-- the size that a record has: none, or one
abbrev pub size_of : Reception → List ℕ
size_of rec = cond rec.sized (rec.size ∷ []) []

-- sizes told later, or those from before
abbrev pub later : List ℕ → List ℕ → List ℕ
later [] ys = ys
later (z ∷ zs) ys = z ∷ zs

pub step-size : (s : State) (e : Event) → size_of (step s e).rec ≡ later (size_by (is_accepted s e) e []) (size_of s.rec)
step-size s e = go e (is_accepted s e) refl
  where
    go : (e : Event) (t : Bool) → is_accepted s e ≡ t → size_of (step s e).rec ≡ later (size_by (is_accepted s e) e []) (size_of s.rec)
    go (Data o z) true f = rw f
    go (Data o z) false f = rw f
    go Metadata true f = rw f
    go Metadata false f = rw f
    go (Eof z) true f = rw f
    go (Eof z) false f = rw f

pub later_by : (t : Bool) (e : Event) (zs ys : List ℕ) → later zs (later (size_by t e []) ys) ≡ later (size_by t e zs) ys
later_by true (Data o z) [] ys = refl
later_by true (Data o z) (x ∷ zs) ys = refl
later_by true Metadata [] ys = refl
later_by true Metadata (x ∷ zs) ys = refl
later_by true (Eof z) [] ys = refl
later_by true (Eof z) (x ∷ zs) ys = refl
later_by false e [] ys = refl
later_by false e (x ∷ zs) ys = refl

size-from : (es : List Event) (s : State) → size_of (run s es).rec ≡ later (told_size s es) (size_of s.rec)
size-from [] s = refl
size-from (e ∷ es) s =
    size-from es (step s e)
    ∙ ap (later (told_size (step s e) es)) (step-size s e)
    ∙ later_by (is_accepted s e) e (told_size (step s e) es) (size_of s.rec)

-- the size that the record has is the one that an accepted EOF told
pub told-size : (w : Width) (xs : List ℕ) (es : List Event) → size_of (run (fresh w xs) es).rec ≡ told_size (fresh w xs) es
told-size w xs es = size-from es (fresh w xs) ∙ alone (told_size (fresh w xs) es)
  where
    alone : (zs : List ℕ) → later zs [] ≡ zs
    alone [] = refl
    alone (z ∷ zs) = refl
