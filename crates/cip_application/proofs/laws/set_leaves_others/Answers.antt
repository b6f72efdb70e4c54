use Rattle.cip_application.proofs.AfterSet.{set_leaves_others as law}
use Rattle.cip_application.proofs.laws.set_leaves_others.Goals as goal

pub returns : goal.returns
returns c = law
