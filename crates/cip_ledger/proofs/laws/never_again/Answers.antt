use Rattle.cip_ledger.proofs.Answered.{never-again}
use Rattle.cip_ledger.proofs.laws.never_again.Goals as goal

pub returns : goal.returns
returns g c = never-again g.R.Router.after g.R.Router.answer g.R.Target.standing
