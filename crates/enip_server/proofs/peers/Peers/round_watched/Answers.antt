use Rattle.enip_server.proofs.WatchLemmas.{seen_ticked}
use Rattle.enip_server.proofs.peers.Peers.round_watched.Goals as goal

pub returns-clause-watched : goal.returns-clause-watched
returns-clause-watched g c = λ seen.
    c.serve_slots-ended.ensures.watched
    (seen_ticked g.T.Watcher.has_seen c.args.watcher.now c.args.self.now.adapter c.tick.new.self c.args.now
    c.tick.ensures seen)
