use Rattle.enip_server.proofs.WatchRounds.{law_round, law_step}
use Rattle.enip_server.proofs.laws.frames_change_the_device.Goals as goal

pub returns-clause-round : goal.returns-clause-round
returns-clause-round g c =
    law_round g.W.Wire.left g.W.Wire.written g.W.Wire.known g.W.Wire.counts g.O.Owner.answer g.O.Owner.after

pub returns-clause-step : goal.returns-clause-step
returns-clause-step g c =
    law_step g.W.Wire.left g.W.Wire.written g.W.Wire.known g.W.Wire.counts g.O.Owner.answer g.O.Owner.after
