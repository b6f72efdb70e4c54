use Rattle.cip_ledger.proofs.Pendings.{withdrawn-answered}
use Rattle.cip_ledger.proofs.laws.a_withdrawn_command_is_not_executed.Goals as goal

pub returns : goal.returns
returns g c = withdrawn-answered g.R.Router.after g.R.Router.answer g.R.Target.standing
