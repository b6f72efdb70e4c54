use Rattle.cip_owner.proofs.RunLemmas.{once as law}
use Rattle.cip_owner.proofs.laws.each_command_is_finished_once.Goals as goal

pub returns : goal.returns
returns c = law
