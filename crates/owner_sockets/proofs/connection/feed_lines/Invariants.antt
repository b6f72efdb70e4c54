use Rattle.enip_server.specs.Rounds.{IsWritten, state_of}
use Rattle.owner_port.specs.Ports.{HasSeen}
use Rattle.owner_sockets.proofs.connection.feed_lines.Given as goal

-- What the lines so far have changed is own writes, and the port has seen all.
abbrev pub invariant-loop : goal.invariant-loop
invariant-loop g l = record {
  written : IsWritten (state_of l.fn.peers) (state_of l.peers);
  seen : HasSeen l.fn.port (state_of l.fn.peers).adapter.state.shared.objects
      → HasSeen l.port (state_of l.peers).adapter.state.shared.objects;
}
