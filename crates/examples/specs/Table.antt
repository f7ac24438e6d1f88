-- The traced examples of document 01 that it marks P, in its order, as one table: an example, and what the paper says comes of it.
use Rattle.std.specs.Prelude.{List, [], ◌∷◌}
use Rattle.ranges.specs.Range.{Range, range}
use Rattle.outcomes.specs.Outcome.{Outcome, accepted}
use Rattle.outcomes.specs.Refusal.{refusing}
use Rattle.outcomes.specs.declared.Refusal.TheVariants as refusal
use Rattle.ranges.specs.declared.Width.TheVariants.{Wide, Narrow}
use Rattle.reception.specs.History.{Data, Metadata}
use Rattle.examples.specs.Example.{Example, Add, Remove, Coalesce, Events, Sequence, Came, came}

pub record Row : Type 0 where
  pub example : Example
  pub paper : Came

abbrev pub row : Example → Came → Row
row e c = record { example = e; paper = c }

-- W = [(10,20), (30,40)], wide.
abbrev pub W : List Range
W = range 10 20 ∷ range 30 40 ∷ []

-- The answers to accepted events.
abbrev pub kept : Outcome
kept = accepted (1 ∷ [])

abbrev pub noticed : Outcome
noticed = accepted (0 ∷ [])

abbrev pub known : Outcome
known = accepted []

abbrev pub table : List Row
table =
    -- remove (10,20) → true, [(30,40)]; by C-16 the whole of range 0.
    row (Remove Wide 2 W 10 20) (came (accepted (1 ∷ 0 ∷ 1 ∷ []) ∷ []) (30 ∷ 40 ∷ 0 ∷ 0 ∷ []) 0)
    -- (10,15) → [(15,20), (30,40)]: the left part.
    ∷ row (Remove Wide 2 W 10 15) (came (accepted (2 ∷ 0 ∷ 2 ∷ []) ∷ []) (15 ∷ 20 ∷ 30 ∷ 40 ∷ []) 0)
    -- (12,18) at capacity 2 → 1; at 3 → [(10,12), (18,20), (30,40)], a split.
    ∷ row (Remove Wide 2 W 12 18) (came ((refusing refusal.StoreFull) ∷ []) (10 ∷ 20 ∷ 30 ∷ 40 ∷ []) 0)
    ∷ row (Remove Wide 3 W 12 18) (came (accepted (4 ∷ 0 ∷ 3 ∷ []) ∷ []) (10 ∷ 12 ∷ 18 ∷ 20 ∷ 30 ∷ 40 ∷ []) 0)
    -- (20,30) → false: none. (5,25) → 5.
    ∷ row (Remove Wide 2 W 20 30) (came (accepted (0 ∷ 0 ∷ 2 ∷ []) ∷ []) (10 ∷ 20 ∷ 30 ∷ 40 ∷ []) 0)
    ∷ row (Remove Wide 2 W 5 25) (came (refusing (refusal.InvalidSegmentBoundary 5 25) ∷ []) (10 ∷ 20 ∷ 30 ∷ 40 ∷ []) 0)
    -- Narrow (4294967296, 4294967296): remove → 4, add → 2. Narrow add (0, 4294967295) is taken.
    ∷ row (Remove Narrow 1 [] 4294967296 4294967296) (came ((refusing refusal.LargeFileSegmentNotSupported) ∷ []) (0 ∷ 0 ∷ []) 0)
    ∷ row (Add Narrow 1 [] 4294967296 4294967296) (came ((refusing refusal.EmptySegment) ∷ []) (0 ∷ 0 ∷ []) 0)
    ∷ row (Add Narrow 1 [] 0 4294967295) (came (accepted (1 ∷ []) ∷ []) (0 ∷ 4294967295 ∷ []) 0)
    -- coalesce [(30,40), (10,20), (20,30), (12,13)] → [(10,40)].
    ∷ row (Coalesce Wide 4 (range 30 40 ∷ range 10 20 ∷ range 20 30 ∷ range 12 13 ∷ []))
    (came (accepted (1 ∷ []) ∷ []) (10 ∷ 40 ∷ 0 ∷ 0 ∷ 0 ∷ 0 ∷ 0 ∷ 0 ∷ []) 0)
    -- Known, kept 0–100, 200–300, 120–150: list [(100,120), (150,200)], progress 300; then 90–210: empty.
    ∷ row (Events 2 (Metadata ∷ Data 0 100 ∷ Data 200 100 ∷ Data 120 30 ∷ []))
    (came (known ∷ kept ∷ kept ∷ kept ∷ []) (100 ∷ 120 ∷ 150 ∷ 200 ∷ []) 300)
    ∷ row (Events 2 (Metadata ∷ Data 0 100 ∷ Data 200 100 ∷ Data 120 30 ∷ Data 90 120 ∷ []))
    (came (known ∷ kept ∷ kept ∷ kept ∷ kept ∷ []) (0 ∷ 0 ∷ 0 ∷ 0 ∷ []) 300)
    -- At capacity 1 the third event is 1; 100–150 then gives [(150,200)].
    ∷ row (Events 1 (Metadata ∷ Data 0 100 ∷ Data 200 100 ∷ Data 120 30 ∷ Data 100 50 ∷ []))
    (came (known ∷ kept ∷ kept ∷ (refusing refusal.StoreFull) ∷ kept ∷ []) (150 ∷ 200 ∷ []) 300)
    -- Waiting, notice 50–60: [(0,60)]; metadata; kept 70–80: [(0,70)], progress 80.
    ∷ row (Events 1 (Data 50 10 ∷ [])) (came (noticed ∷ []) (0 ∷ 60 ∷ []) 60)
    ∷ row (Events 1 (Data 50 10 ∷ Metadata ∷ Data 70 10 ∷ [])) (came (noticed ∷ known ∷ kept ∷ []) (0 ∷ 70 ∷ []) 80)
    -- k = 2, (0,1) (2,3) (4,5) (6,7) (8,9), progress 12: scopes 0–3, 3–7, 7–12.
    ∷ row (Sequence 2 (range 0 1 ∷ range 2 3 ∷ range 4 5 ∷ range 6 7 ∷ range 8 9 ∷ []) 12) (came [] (0 ∷ 3 ∷ 3 ∷ 7 ∷ 7 ∷ 12 ∷ []) 12)
    -- Of the section on the sequence: k = 1, (0,1) (2,3) (4,5), progress 10: 0–1, 1–3, 3–10.
    ∷ row (Sequence 1 (range 0 1 ∷ range 2 3 ∷ range 4 5 ∷ []) 10) (came [] (0 ∷ 1 ∷ 1 ∷ 3 ∷ 3 ∷ 10 ∷ []) 10)
    ∷ []
