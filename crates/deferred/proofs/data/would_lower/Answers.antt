-- `would_lower` meets its contract: what `held` says of the data before it comes.
use Rattle.deferred.proofs.data.Lost.{never_long, waits-lowers, lost-lowers}
use Rattle.std.proofs.Common.{rules}
use Rattle.std.proofs.lemmas.Result.{MatchResult-weaker}
use Rattle.deferred.proofs.data.would_lower.Goals as goal

pub returns-then-rec : goal.returns-then-rec
returns-then-rec c =
    let a = c.args in
    λ f g. waits-lowers a.rec a.list.now a.offset a.length f g c.if-rec.true

pub returns-in_default : goal.returns-in_default
returns-in_default c =
    let a = c.args in
    λ f g. absurd (never_long a.rec a.list.now a.offset a.length f (c.in_default.ensures))

pub returns : goal.returns
returns c =
    let a = c.args in
    λ f g. lost-lowers a.rec a.list.now a.offset a.length f g c.if-rec.false c.held.result _ (rw c.in-Some.ensures.1 at c.held.ensures)
    (MatchResult-weaker c.held.result c.is_ok_and.ensures (λ kept p. search rules) (λ q p. p))
