use Rattle.cip_ledger.proofs.Doubts.{kept-above}
use Rattle.cip_ledger.proofs.laws.kept_numbers_are_not_executed.Goals as goal

pub returns : goal.returns
returns g c = kept-above g.R.Router.after g.R.Router.answer g.R.Target.standing
