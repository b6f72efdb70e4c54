use Rattle.enip_eds.proofs.eds.add_fields.Goals as goal

pub returns : goal.returns
returns c = rw (c.in_ok-size.ensures, c.deref.ensures.value) at c.write.ensures.bytes
