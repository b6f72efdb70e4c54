use Rattle.cip_ledger.proofs.Answered.{same-bytes}
use Rattle.cip_ledger.proofs.laws.same_bytes.Goals as goal

pub returns : goal.returns
returns g c = same-bytes g.R.Router.after g.R.Router.answer g.R.Target.standing
