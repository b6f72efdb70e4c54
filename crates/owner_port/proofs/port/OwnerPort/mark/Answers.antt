use Rattle.enip_adapter.specs.OwnWrites.{Marks}
use Rattle.enip_server.specs.Rounds.{state_of}
use Rattle.enip_server.proofs.OwnWriteLemmas.{written_once}
use Rattle.owner_port.proofs.port.OwnerPort.mark.Goals as goal

pub returns-in-Some-clause-writes : goal.returns-in-Some-clause-writes
returns-in-Some-clause-writes g c =
    written_once (Marks c.in-Some.ticket) (state_of c.args.peers.now) (state_of c.mark.new.self) c.mark.ensures.call
