use Rattle.cip_manager.proofs.DeadlineLemmas.{earliest_deadline-of}
use Rattle.cip_manager.proofs.laws.earliest_is_a_deadline.Goals as goal

pub returns : goal.returns
returns c = earliest_deadline-of
