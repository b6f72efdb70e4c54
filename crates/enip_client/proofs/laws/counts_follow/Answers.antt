use Rattle.enip_client.proofs.ConnectionLemmas.{counts-follow}
use Rattle.enip_client.proofs.laws.counts_follow.Goals as goal

pub returns : goal.returns
returns c = counts-follow
