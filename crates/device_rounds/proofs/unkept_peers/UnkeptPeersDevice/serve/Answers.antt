use Rattle.std.proofs.Common.{refl}
use Rattle.enip_server.specs.Rounds.{state_of}
use Rattle.device_rounds.proofs.unkept_peers.UnkeptPeersDevice.serve.Goals as goal

pub returns-clause-served : goal.returns-clause-served
returns-clause-served g c = (
  record { input = c.args.input; adapter = (state_of c.take_round-self.new.peers).adapter },
  refl,
  refl,
  c.take_round-self.ensures,
)
