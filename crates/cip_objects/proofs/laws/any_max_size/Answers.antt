use Rattle.cip_objects.proofs.Refused.{any_max_size as law}
use Rattle.cip_objects.proofs.laws.any_max_size.Goals as goal

pub returns : goal.returns
returns c = law
