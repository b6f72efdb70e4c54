use Rattle.enip_owner.proofs.AheadLemmas.{session_gets_first as law}
use Rattle.enip_owner.proofs.laws.sessions_get_the_first_that_wait.Goals as goal

pub returns : goal.returns
returns c = law
