use Rattle.cip_objects.proofs.SetListRun.{set_list_is_sets as law}
use Rattle.cip_objects.proofs.laws.set_list_is_sets.Goals as goal

pub returns : goal.returns
returns c = law
