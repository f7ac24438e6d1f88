-- `nak::Asked::numbers`: two for each request.
use Rattle.std.proofs.Common.{◌≡◌, ◌*◌, length, Bool, true, false, arith, refl}
use Rattle.std.specs.Int.{from_bool}
use Rattle.ranges.specs.Store.{flat}
use Rattle.nak.specs.Inner.{metadata_first}
use Rattle.nak.proofs.Parts.{length-asked_for}
use Rattle.nak.proofs.Asked.numbers.Goals as goal

two : (m : Bool) → 2 * from_bool m ≡ length (flat (metadata_first m))
two true = refl
two false = refl

pub returns : goal.returns
returns c =
    let a = c.args.self in
    omega (arith, length-asked_for a, two a.metadata, c.from.ensures, c.pairs.ensures)
