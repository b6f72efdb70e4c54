use Rattle.cip_ledger.proofs.Settled.{frees}
use Rattle.cip_ledger.proofs.laws.freed_by_its_number.Goals as goal

pub returns : goal.returns
returns g c = frees g.R.Router.after g.R.Router.answer g.R.Target.standing
