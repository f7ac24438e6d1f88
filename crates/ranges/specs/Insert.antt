-- A range put into a coalesced list: it joins the ranges that it overlaps or is adjacent to.
use Rattle.std.specs.Prelude.{min, max, cond, List, [], ◌∷◌, ltb}
use Rattle.ranges.specs.Range.{Range, range}

-- The one range of two that overlap or are adjacent.
abbrev pub joined : Range → Range → Range
joined q r = range (min q.start r.start) (max q.end r.end)

-- r in front of the coalesced list qs, of which no range lies wholly before it: it joins those that it overlaps or is adjacent to.
abbrev pub absorb : Range → List Range → List Range
absorb r [] = r ∷ []
absorb r (q ∷ qs) = cond (ltb r.end q.start) (r ∷ q ∷ qs) (absorb (joined q r) qs)

-- r put into the coalesced list qs.
abbrev pub insert : Range → List Range → List Range
insert r [] = r ∷ []
insert r (q ∷ qs) = cond (ltb q.end r.start) (q ∷ insert r qs) (absorb r (q ∷ qs))

-- The same, but a pair with its end at most its start is dropped.
abbrev pub join : Range → List Range → List Range
join r qs = cond (ltb r.start r.end) (insert r qs) qs
