use Rattle.owner_port.proofs.HandLemmas.{waits}
use Rattle.owner_port.proofs.laws.handed_commands_wait.Goals as goal

pub returns : goal.returns
returns c = waits
