use Rattle.cip_owner.proofs.ResetLemmas.{uncounted as law}
use Rattle.cip_owner.proofs.laws.other_requests_reset_nothing.Goals as goal

pub returns : goal.returns
returns c = law
