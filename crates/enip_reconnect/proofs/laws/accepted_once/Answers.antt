use Rattle.enip_reconnect.proofs.Corollaries.{accepted_once}
use Rattle.enip_reconnect.proofs.MessageRuns.{messages_come}
use Rattle.enip_reconnect.proofs.laws.accepted_once.Goals as goal

pub returns : goal.returns
returns c = accepted_once messages_come
