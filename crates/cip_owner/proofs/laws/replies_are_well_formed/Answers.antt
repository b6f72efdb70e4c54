use Rattle.cip_owner.proofs.OwnerLemmas.{well_formed as law}
use Rattle.cip_owner.proofs.laws.replies_are_well_formed.Goals as goal

pub returns : goal.returns
returns c = law
