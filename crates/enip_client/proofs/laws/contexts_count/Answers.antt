use Rattle.enip_client.proofs.RunLemmas.{contexts-count}
use Rattle.enip_client.proofs.laws.contexts_count.Goals as goal

pub returns : goal.returns
returns c = contexts-count
