use Rattle.cip_objects.proofs.OwnRequests.{own_is_refused as law}
use Rattle.cip_objects.proofs.laws.own_is_refused.Goals as goal

pub returns : goal.returns
returns c = law
