use Rattle.cip_owner.proofs.ResetLemmas.{unowned as law}
use Rattle.cip_owner.proofs.laws.owner_is_not_asked_about_a_reset.Goals as goal

pub returns : goal.returns
returns c = law
