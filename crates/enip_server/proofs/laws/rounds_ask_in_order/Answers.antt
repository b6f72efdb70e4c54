use Rattle.enip_server.proofs.RoundAsks.{law_asked}
use Rattle.enip_server.proofs.laws.rounds_ask_in_order.Goals as goal

pub returns : goal.returns
returns g c =
    law_asked g.W.Wire.left g.W.Wire.written g.W.Wire.known g.W.Wire.counts g.O.Owner.answer g.O.Owner.after
