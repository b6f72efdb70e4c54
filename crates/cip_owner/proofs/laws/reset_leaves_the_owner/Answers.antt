use Rattle.cip_owner.proofs.ResetLemmas.{leaves as law}
use Rattle.cip_owner.proofs.laws.reset_leaves_the_owner.Goals as goal

pub returns : goal.returns
returns c = law
