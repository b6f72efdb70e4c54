use Rattle.cip_owner.proofs.ResetLemmas.{answers as law}
use Rattle.cip_owner.proofs.laws.reset_is_answered.Goals as goal

pub returns : goal.returns
returns c = law
