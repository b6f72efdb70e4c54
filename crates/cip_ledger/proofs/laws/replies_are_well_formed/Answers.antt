use Rattle.cip_ledger.proofs.Forms.{in-form}
use Rattle.cip_ledger.proofs.laws.replies_are_well_formed.Goals as goal

pub returns : goal.returns
returns g c = in-form g.R.Router.after g.R.Router.answer g.R.Target.standing
