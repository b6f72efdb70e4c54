use Rattle.cip_owner.proofs.OwnerLemmas.{alike as law}
use Rattle.cip_owner.proofs.laws.asked_alike.Goals as goal

pub returns : goal.returns
returns c = law
