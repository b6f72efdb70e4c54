use Rattle.cip_ledger.proofs.Settled.{router-reached}
use Rattle.cip_ledger.proofs.laws.router_executes_what_reaches_it.Goals as goal

pub returns : goal.returns
returns g c = λ node requests. router-reached g.R.Router.after g.R.Router.answer g.R.Target.standing requests node
