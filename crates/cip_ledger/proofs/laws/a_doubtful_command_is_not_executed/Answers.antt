use Rattle.cip_ledger.proofs.Doubts.{doubt-answered}
use Rattle.cip_ledger.proofs.laws.a_doubtful_command_is_not_executed.Goals as goal

pub returns : goal.returns
returns g c = doubt-answered g.R.Router.after g.R.Router.answer g.R.Target.standing
