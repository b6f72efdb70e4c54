use Rattle.cip_ledger.proofs.Pendings.{pending-answered}
use Rattle.cip_ledger.proofs.laws.a_pending_command_is_not_executed.Goals as goal

pub returns : goal.returns
returns g c = pending-answered g.R.Router.after g.R.Router.answer g.R.Target.standing
