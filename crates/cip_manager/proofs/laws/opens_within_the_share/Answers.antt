use Rattle.cip_manager.proofs.ShareLemmas.{opens-within}
use Rattle.cip_manager.proofs.laws.opens_within_the_share.Goals as goal

pub returns : goal.returns
returns c = opens-within
