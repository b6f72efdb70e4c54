use Rattle.cip_objects.proofs.Sets.{changes_fit as law}
use Rattle.cip_objects.proofs.laws.changes_fit.Goals as goal

pub returns : goal.returns
returns c = law
