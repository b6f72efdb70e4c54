use Rattle.cip_ledger.proofs.ExecutingLemmas.{executed_in_doubt}
use Rattle.cip_ledger.proofs.laws.executed_can_be_in_doubt.Goals as goal

pub returns : goal.returns
returns g c = executed_in_doubt g.R.Target.standing
