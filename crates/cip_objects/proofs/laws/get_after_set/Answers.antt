use Rattle.cip_objects.proofs.Sets.{get_after_set as law}
use Rattle.cip_objects.proofs.laws.get_after_set.Goals as goal

pub returns : goal.returns
returns c = law
