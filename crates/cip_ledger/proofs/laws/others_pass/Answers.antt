use Rattle.cip_ledger.proofs.Forms.{passes}
use Rattle.cip_ledger.proofs.laws.others_pass.Goals as goal

pub returns : goal.returns
returns g c = passes g.R.Router.after g.R.Router.answer g.R.Target.standing
