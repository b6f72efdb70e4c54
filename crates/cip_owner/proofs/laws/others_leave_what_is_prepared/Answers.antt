use Rattle.cip_owner.proofs.OwnerLemmas.{unasked as law}
use Rattle.cip_owner.proofs.laws.others_leave_what_is_prepared.Goals as goal

pub returns : goal.returns
returns c = law
