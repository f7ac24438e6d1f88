-- `fresh` meets its contract: each width gives its record.
use Rattle.std.proofs.Common.{rules, arith, ℕ, ◌<◌}
use lib.ListN.{get_or}
use Rattle.reception.specs.Record.{fresh_record}
use mathlib.Core.Path.{◌≡◌, ap, ◌∙◌}
use mathlib.Core.List.{List}
use Rattle.ranges.specs.declared.Width.TheVariants.{Wide}
use Rattle.reception.specs.declared.Reception.{Reception}
use Rattle.pooling.specs.Pool.{nowhere}
use Rattle.pooling.proofs.FreshPools.{fresh-records}
use Rattle.pooling.proofs.Pool.fresh.Goals as goal

pub returns : goal.returns
returns c =
    let a = c.args in
    let m = c.map.ensures.items in
    let each : (i : ℕ) → i < 8 → get_or c.map.result i nowhere ≡ fresh_record (get_or a.widths i Wide) = λ i l. let k = (m.at i Wide nowhere l).2 in search rules in
    ap (λ (rs : List Reception). record { used = a.used; records = rs; floors = a.floors; limits = a.limits })
    (fresh-records a.widths c.map.result 0 8 m.long (λ i l. each i l ∙ ap (λ (k : ℕ). fresh_record (get_or a.widths k Wide)) (omega arith)))
