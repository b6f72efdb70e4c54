use Rattle.cip_owner.proofs.ResetLemmas.{unopted as law}
use Rattle.cip_owner.proofs.laws.no_device_is_reset_unasked.Goals as goal

pub returns : goal.returns
returns c = law
