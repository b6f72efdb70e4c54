use Rattle.enip_reconnect.proofs.Corollaries.{worlds}
use Rattle.enip_reconnect.proofs.laws.worlds_agree.Goals as goal

pub returns : goal.returns
returns c = worlds
