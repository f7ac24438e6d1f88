-- There is room for the three numbers of an identity.
use Rattle.std.proofs.Common.{ℕ, ◌+◌, ◌*◌, ◌≤◌, ◌≡◌, List, length, arith}
use Rattle.nak_parsing.specs.Parser.{entity_length_in, number_length_in, header_length_in}
use Rattle.nak_parsing.proofs.Reading.{entity_high, number-high, header_is}

pub room : (p : List ℕ) (i q : ℕ) → header_length_in p ≤ length p → i ≡ entity_length_in p → q ≡ number_length_in p
    → (4 + 2 * i + q ≤ length p) × (i ≤ 8) × (q ≤ 8)
room p i q h e k =
    let l = header_is p in
    (omega arith, omega (arith, entity_high p), omega (arith, number-high p))
