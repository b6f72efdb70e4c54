use Rattle.enip_owner.proofs.HandOverLemmas.{marked_again as law}
use Rattle.enip_owner.proofs.laws.marked_if_handed_over_before.Goals as goal

pub returns : goal.returns
returns c = law
