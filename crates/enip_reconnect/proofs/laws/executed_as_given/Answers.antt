use Rattle.enip_reconnect.proofs.Corollaries.{given}
use Rattle.enip_reconnect.proofs.laws.executed_as_given.Goals as goal

pub returns : goal.returns
returns c = given
