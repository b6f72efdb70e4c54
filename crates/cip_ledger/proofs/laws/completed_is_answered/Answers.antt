use Rattle.cip_ledger.proofs.Pendings.{completed-answered}
use Rattle.cip_ledger.proofs.laws.completed_is_answered.Goals as goal

pub returns : goal.returns
returns g c = completed-answered g.R.Router.after g.R.Router.answer g.R.Target.standing
