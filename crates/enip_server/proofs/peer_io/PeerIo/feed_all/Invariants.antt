use Rattle.std.proofs.Common.{◌≡◌, [], None, length}
use Rattle.enip_server.specs.PeerStates.{peer_state_of, AreFed, GoesOn}
use Rattle.enip_server.proofs.peer_io.PeerIo.feed_all.Given as goal

abbrev pub invariant-loop-self : goal.invariant-loop-self
invariant-loop-self g l = record {
  peer : l.self.peer ≡ l.fn.self.peer;
  out : l.self.outbox ≡ [];
  served : l.self.closed ≡ None;
  end_reported : l.self.end_reported ≡ l.fn.self.end_reported;
  fits_buffers : GoesOn (g.W.Wire.counts l.fn.self.wire) (g.W.Wire.counts l.self.wire);
  fed : AreFed g.O.Owner.answer g.O.Owner.after l.now l.fn.self.peer
      l.fn.owner (peer_state_of g.W.Wire.left g.W.Wire.written g.W.Wire.known g.W.Wire.counts l.fn.adapter l.fn.self)
      l.owner (peer_state_of g.W.Wire.left g.W.Wire.written g.W.Wire.known g.W.Wire.counts l.adapter l.self);
  watched : g.T.Watcher.has_seen l.fn.watcher l.fn.adapter.state.shared.objects →
      g.T.Watcher.has_seen l.watcher l.adapter.state.shared.objects;
}

abbrev pub decreases-loop-self : goal.decreases-loop-self
decreases-loop-self g l = length l.self.inbox
