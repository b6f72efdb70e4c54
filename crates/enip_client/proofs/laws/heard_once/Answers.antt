use Rattle.enip_client.proofs.RunLemmas.{heard-once}
use Rattle.enip_client.proofs.laws.heard_once.Goals as goal

pub returns : goal.returns
returns c = heard-once
