use Rattle.cip_application.proofs.ObjectList.{listed}
use Rattle.cip_application.proofs.laws.object_list.Goals as goal

pub returns : goal.returns
returns c = listed
