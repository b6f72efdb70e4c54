use Rattle.cip_objects.proofs.Whole.{stays_whole as law}
use Rattle.cip_objects.proofs.laws.data_stay_whole.Goals as goal

pub returns : goal.returns
returns c = law
