use Rattle.cip_objects.proofs.Unsettable.{unsettable as law}
use Rattle.cip_objects.proofs.laws.unsettable_stays.Goals as goal

pub returns : goal.returns
returns c = law
