use Rattle.enip_reconnect.proofs.Corollaries.{rising}
use Rattle.enip_reconnect.proofs.laws.executed_once.Goals as goal

pub returns : goal.returns
returns c = rising
