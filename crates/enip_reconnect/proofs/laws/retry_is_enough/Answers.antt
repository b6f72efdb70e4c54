use Rattle.enip_reconnect.proofs.Retries.{retries}
use Rattle.enip_reconnect.proofs.laws.retry_is_enough.Goals as goal

pub returns : goal.returns
returns c = retries
