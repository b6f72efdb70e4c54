use Rattle.cip_owner.proofs.RunLemmas.{answered_law as law}
use Rattle.cip_owner.proofs.laws.finished_command_is_answered.Goals as goal

pub returns : goal.returns
returns c = law
