use Rattle.cip_objects.proofs.Approved.{leaves_others as law}
use Rattle.cip_objects.proofs.laws.approved_leaves_others.Goals as goal

pub returns : goal.returns
returns c = law
