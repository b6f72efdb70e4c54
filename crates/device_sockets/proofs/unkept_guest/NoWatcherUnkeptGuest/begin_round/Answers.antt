use Rattle.enip_server.specs.Rounds.{state_of}
use Rattle.enip_server.specs.ShownConnections.{shown_connections}
use Rattle.device_sockets.proofs.unkept_guest.NoWatcherUnkeptGuest.begin_round.Goals as goal

pub returns-clause-writes : goal.returns-clause-writes
returns-clause-writes g c = (shown_connections (state_of c.args.peers.now), c.show_connections.ensures)
