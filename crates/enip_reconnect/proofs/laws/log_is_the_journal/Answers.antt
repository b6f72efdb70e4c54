use Rattle.enip_reconnect.proofs.Corollaries.{journals}
use Rattle.enip_reconnect.proofs.laws.log_is_the_journal.Goals as goal

pub returns : goal.returns
returns c = journals
