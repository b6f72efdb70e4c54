use Rattle.enip_server.proofs.WatchLemmas.{fed_frame}
use Rattle.enip_server.proofs.peer_io.PeerIo.feed_watched.Goals as goal

pub returns-clause-watched : goal.returns-clause-watched
returns-clause-watched g c =
    c.served.ensures c.args.adapter.now.state.shared.objects
    (fed_frame g.O.Owner.answer g.O.Owner.after c.args.adapter.now c.feed_once-unsent.new.adapter c.args.owner.now
    c.args.now c.args.self.now.peer c.args.self.now.inbox c.feed_once-unsent.ensures.fed.adapter)
