use Rattle.enip_reconnect.proofs.Corollaries.{never_again}
use Rattle.enip_reconnect.proofs.laws.never_again.Goals as goal

pub returns : goal.returns
returns c = never_again
