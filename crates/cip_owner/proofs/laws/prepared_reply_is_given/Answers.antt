use Rattle.cip_owner.proofs.OwnerLemmas.{given as law}
use Rattle.cip_owner.proofs.laws.prepared_reply_is_given.Goals as goal

pub returns : goal.returns
returns c = law
