use Rattle.cip_objects.proofs.Sets.{set_leaves_others as law}
use Rattle.cip_objects.proofs.laws.set_leaves_others.Goals as goal

pub returns : goal.returns
returns c = law
