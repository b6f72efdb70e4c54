use Rattle.enip_owner.proofs.AheadLemmas.{at_most_ahead as law}
use Rattle.enip_owner.proofs.laws.at_most_ahead_are_in_hand.Goals as goal

pub returns : goal.returns
returns c = law
