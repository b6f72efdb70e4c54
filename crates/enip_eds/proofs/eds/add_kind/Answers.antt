use Rattle.enip_eds.proofs.eds.add_kind.Goals as goal

pub returns : goal.returns
returns c = rw c.device_type_name-name.ensures at c.write.ensures.bytes
