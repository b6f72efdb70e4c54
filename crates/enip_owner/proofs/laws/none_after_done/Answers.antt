use Rattle.enip_owner.proofs.HandOverLemmas.{none_after_done as law}
use Rattle.enip_owner.proofs.laws.none_after_done.Goals as goal

pub returns : goal.returns
returns c = law
