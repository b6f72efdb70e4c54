use Rattle.enip_owner.proofs.HandOverLemmas.{in_order as law}
use Rattle.enip_owner.proofs.laws.commands_are_handed_over_in_order.Goals as goal

pub returns : goal.returns
returns c = law
