use Rattle.enip_server.specs.Rounds.{state_of}
use Rattle.enip_server.proofs.OwnWriteLemmas.{nothing_written, written_then}
use Rattle.owner_sockets.proofs.connection.feed_lines.Goals as goal

pub loop-init : goal.loop-init
loop-init g c = record {
  written = nothing_written (state_of c.args.peers.now);
  seen = λ seen. seen;
}

pub loop-preserved : goal.loop-preserved
loop-preserved g c = record {
  written =
      written_then (state_of c.args.peers.now) (state_of c.loop.peers) (state_of c.feed-left.new.peers)
      c.loop.invariant.written c.feed-left.ensures.writes;
  seen = λ seen. c.feed-left.ensures.seen (c.loop.invariant.seen seen);
}
