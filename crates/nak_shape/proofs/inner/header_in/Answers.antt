-- `nak_shape::inner::header_in`: it computes the definition.
use Rattle.std.proofs.Common.{rules}
use Rattle.nak_parsing.specs.Parser.{packet_flag, packet_crc, entity_length_in, number_length_in, header_length_in, length_field}
use Rattle.nak_shape.proofs.inner.header_in.Goals as goal

pub returns : goal.returns
unfolding packet_flag packet_crc entity_length_in number_length_in header_length_in length_field
returns c = search rules
