use Rattle.cip_ledger.proofs.Executions.{executes}
use Rattle.cip_ledger.proofs.laws.new_is_executed.Goals as goal

pub returns : goal.returns
returns g c = executes g.R.Router.after g.R.Router.answer g.R.Target.standing
