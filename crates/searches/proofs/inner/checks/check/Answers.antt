-- `check` meets its contract: of a coalesced list the last end decides for all numbers.
use Rattle.std.proofs.Common.{sym, ap, ◌∙◌, ltb}
use Rattle.std.proofs.lemmas.Bool.{true≢false}
use Rattle.ranges.specs.Store.{counted}
use Rattle.ranges.proofs.Good.{shape_bad, shape_fine}
use Rattle.ranges.proofs.Last.{above-counted}
use Rattle.ranges.proofs.Test.{coalesced_of}
use Rattle.searches.proofs.inner.checks.check.Goals as goal

pub returns-then-bad_shape : goal.returns-then-bad_shape
returns-then-bad_shape c = (shape_bad _ _ _ (sym c.bad_shape.ensures.value ∙ c.if-bad_shape.true), λ e. absurd (true≢false e))

pub returns-then-is_coalesced : goal.returns-then-is_coalesced
returns-then-is_coalesced c =
    let a = c.args in
    let f = sym c.bad_shape.ensures.value ∙ c.if-bad_shape.false in
    let w = sym c.is_coalesced.ensures ∙ c.if-is_coalesced.true in
    let o = above-counted a.top a.list.now a.count (c.bad_shape.ensures.room c.if-bad_shape.false).0 (coalesced_of (counted a.list.now a.count) w) in
    (ap (ltb a.top) c.last_end.ensures ∙ sym o ∙ shape_fine _ _ _ f, λ e. sym w)

pub returns : goal.returns
returns c =
    let f = sym c.bad_shape.ensures.value ∙ c.if-bad_shape.false in
    (c.any_above.ensures ∙ shape_fine _ _ _ f, λ e. sym (sym c.is_coalesced.ensures ∙ c.if-is_coalesced.false))
