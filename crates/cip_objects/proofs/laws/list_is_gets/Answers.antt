use Rattle.cip_objects.proofs.Lists.{list_is_gets as law}
use Rattle.cip_objects.proofs.laws.list_is_gets.Goals as goal

pub returns : goal.returns
returns c = law
