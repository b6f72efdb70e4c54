use Rattle.enip_client.proofs.ConnectionLemmas.{replied-once}
use Rattle.enip_client.proofs.laws.one_reply_each.Goals as goal

pub returns : goal.returns
returns c = replied-once
