use Rattle.enip_server.specs.Rounds.{state_of}
use Rattle.kept_server.proofs.AdmissionLemmas.{nothing_admitted}
use Rattle.kept_server.proofs.guest.NoWatcherRoundGuest.admit_frames.Goals as goal

pub returns-clause-admission : goal.returns-clause-admission
returns-clause-admission g c =
    nothing_admitted g.W.Wire.left g.W.Wire.written c.args._now (state_of c.args._peers.now)
