use Rattle.enip_owner.proofs.AheadLemmas.{handed_soon as law}
use Rattle.enip_owner.proofs.laws.next_is_handed_over_as_soon_as_it_may.Goals as goal

pub returns : goal.returns
returns c = law
