use Rattle.cip_ledger.proofs.Settled.{journal-rises}
use Rattle.cip_ledger.proofs.laws.numbers_rise.Goals as goal

pub returns : goal.returns
returns g c = λ node requests. journal-rises g.R.Router.after g.R.Router.answer g.R.Target.standing requests node
