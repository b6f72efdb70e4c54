use Rattle.enip_server.specs.Rounds.{state_of}
use Rattle.enip_server.specs.ShownConnections.{shown_connections}
use Rattle.enip_server.proofs.OwnWriteLemmas.{written_then}
use Rattle.owner_port.proofs.PortLemmas.{still_seen_after}
use Rattle.owner_sockets.proofs.link.OwnerLink.receive.Goals as goal

pub returns-clause-writes : goal.returns-clause-writes
returns-clause-writes g c =
    written_then (state_of c.args.peers.now) (state_of c.show_connections.new.self) (state_of c.receive.new.peers)
    (shown_connections (state_of c.args.peers.now), c.show_connections.ensures) c.receive.ensures.writes

pub returns-clause-seen : goal.returns-clause-seen
returns-clause-seen g c = λ seen.
    c.receive.ensures.seen (c.expire.ensures.seen (state_of c.show_connections.new.self).adapter.state.shared.objects
    (still_seen_after c.args.self.now.port (shown_connections (state_of c.args.peers.now)) (state_of c.args.peers.now)
    (state_of c.show_connections.new.self) c.show_connections.ensures seen))
