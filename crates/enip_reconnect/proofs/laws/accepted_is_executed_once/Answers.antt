use Rattle.enip_reconnect.proofs.Corollaries.{accepted}
use Rattle.enip_reconnect.proofs.laws.accepted_is_executed_once.Goals as goal

pub returns : goal.returns
returns c = accepted
