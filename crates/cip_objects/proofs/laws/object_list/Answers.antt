use Rattle.cip_objects.proofs.ObjectList.{law}
use Rattle.cip_objects.proofs.laws.object_list.Goals as goal

pub returns : goal.returns
returns c = law
