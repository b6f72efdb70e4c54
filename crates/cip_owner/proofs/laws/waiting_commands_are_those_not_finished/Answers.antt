use Rattle.cip_owner.proofs.RunLemmas.{waiting as law}
use Rattle.cip_owner.proofs.laws.waiting_commands_are_those_not_finished.Goals as goal

pub returns : goal.returns
returns c = law
