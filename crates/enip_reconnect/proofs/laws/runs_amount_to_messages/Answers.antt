use Rattle.enip_reconnect.proofs.MessageRuns.{messages_come}
use Rattle.enip_reconnect.proofs.laws.runs_amount_to_messages.Goals as goal

pub returns : goal.returns
returns c = messages_come
