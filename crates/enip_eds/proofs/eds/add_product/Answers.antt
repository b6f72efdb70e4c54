use Rattle.enip_eds.proofs.eds.add_product.Goals as goal

pub returns : goal.returns
returns c = rw c.as_bytes.ensures.value at c.write.ensures.bytes
