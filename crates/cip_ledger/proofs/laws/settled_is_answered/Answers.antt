use Rattle.cip_ledger.proofs.Doubts.{settled-answered}
use Rattle.cip_ledger.proofs.laws.settled_is_answered.Goals as goal

pub returns : goal.returns
returns g c = settled-answered g.R.Router.after g.R.Router.answer g.R.Target.standing
