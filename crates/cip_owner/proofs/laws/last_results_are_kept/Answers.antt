use Rattle.cip_owner.proofs.RunLemmas.{results as law}
use Rattle.cip_owner.proofs.laws.last_results_are_kept.Goals as goal

pub returns : goal.returns
returns c = law
