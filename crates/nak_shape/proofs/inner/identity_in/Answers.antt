-- `nak_shape::inner::identity_in`: three fields, one behind the other.
use Rattle.nak_parsing.proofs.Reading.{is-identity}
use Rattle.nak_shape.proofs.inner.identity_in.Goals as goal

pub returns : goal.returns
returns c = is-identity c.args.packet.now c.requires.1 c.requires.2 c.get.ensures c.get-2.ensures c.get-3.ensures
