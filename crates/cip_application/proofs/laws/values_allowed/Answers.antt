use Rattle.cip_application.proofs.Allowed.{values_allowed as law}
use Rattle.cip_application.proofs.laws.values_allowed.Goals as goal

pub returns : goal.returns
returns c = law
