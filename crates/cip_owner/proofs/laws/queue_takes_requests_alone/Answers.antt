use Rattle.cip_owner.proofs.OwnedLemmas.{queue as law}
use Rattle.cip_owner.proofs.laws.queue_takes_requests_alone.Goals as goal

pub returns : goal.returns
returns c = law
