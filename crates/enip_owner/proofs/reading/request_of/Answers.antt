use Rattle.json.proofs.Trees.{view-Object}
use Rattle.enip_owner.specs.Requests.{request_of}
use Rattle.enip_owner.proofs.reading.request_of.Goals as goal

pub returns-in-Object : goal.returns-in-Object
unfolding request_of
returns-in-Object c = rw (c.in-Object.is, view-Object c.in-Object.members, ← c.as_slice.ensures.value) c.only_member.ensures
