-- `nak_octets::inner::put_identity`: the fields written side by side are the identity.
use Rattle.nak_octets.proofs.Puts.{identity_puts}
use Rattle.nak_octets.proofs.inner.put_identity.Goals as goal

pub returns : goal.returns
returns c =
    let a = c.args in
    identity_puts a.buf.now a.at a.identity c.put.ensures c.put-2.ensures c.put-3.ensures c.requires
