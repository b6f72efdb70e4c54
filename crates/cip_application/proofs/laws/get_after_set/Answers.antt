use Rattle.cip_application.proofs.AfterSet.{get_after_set as law}
use Rattle.cip_application.proofs.laws.get_after_set.Goals as goal

pub returns : goal.returns
returns c = law
