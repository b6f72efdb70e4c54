use Rattle.cip_ledger.proofs.Executions.{new-turn}
use Rattle.cip_ledger.proofs.laws.new_is_as_the_router_says.Goals as goal

pub returns : goal.returns
returns g c = new-turn g.R.Router.after g.R.Router.answer g.R.Target.standing
