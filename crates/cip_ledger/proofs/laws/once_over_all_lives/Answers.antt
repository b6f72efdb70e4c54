use Rattle.cip_ledger.proofs.Lives.{once_in_all}
use Rattle.cip_ledger.proofs.laws.once_over_all_lives.Goals as goal

pub returns : goal.returns
returns g c = once_in_all g.R.Router.after g.R.Router.answer g.R.Target.standing
