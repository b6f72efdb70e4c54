use Rattle.cip_objects.proofs.Sets.{too_large as law}
use Rattle.cip_objects.proofs.laws.too_large_changes_nothing.Goals as goal

pub returns : goal.returns
returns c = law
