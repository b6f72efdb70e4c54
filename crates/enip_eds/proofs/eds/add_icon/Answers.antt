use Rattle.enip_eds.proofs.eds.add_icon.Goals as goal

pub returns : goal.returns
returns c = rw c.in-Some.is (rw c.in_ok-contents.ensures.text at c.write.ensures.bytes)
