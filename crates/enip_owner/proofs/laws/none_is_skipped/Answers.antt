use Rattle.enip_owner.proofs.HandOverLemmas.{none_skipped as law}
use Rattle.enip_owner.proofs.laws.none_is_skipped.Goals as goal

pub returns : goal.returns
returns c = law
