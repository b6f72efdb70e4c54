use Rattle.enip_server.proofs.LifeLemmas.{law_peers}
use Rattle.enip_server.proofs.laws.peers_are_served_apart.Goals as goal

pub returns : goal.returns
returns g c = law_peers g.W.Wire.left g.W.Wire.written g.W.Wire.known g.W.Wire.counts g.O.Owner.answer g.O.Owner.after
