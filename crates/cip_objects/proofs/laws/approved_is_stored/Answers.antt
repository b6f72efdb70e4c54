use Rattle.cip_objects.proofs.Approved.{is_stored as law}
use Rattle.cip_objects.proofs.laws.approved_is_stored.Goals as goal

pub returns : goal.returns
returns c = law
