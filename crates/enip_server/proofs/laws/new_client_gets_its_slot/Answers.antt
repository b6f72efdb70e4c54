use Rattle.enip_server.proofs.RoomRounds.{law_given, law_others, law_room}
use Rattle.enip_server.proofs.laws.new_client_gets_its_slot.Goals as goal

pub returns-clause-given : goal.returns-clause-given
returns-clause-given g c =
    law_given g.W.Wire.left g.W.Wire.written g.W.Wire.known g.W.Wire.counts g.O.Owner.answer g.O.Owner.after

pub returns-clause-others : goal.returns-clause-others
returns-clause-others g c = law_others

pub returns-clause-room : goal.returns-clause-room
returns-clause-room g c = law_room
