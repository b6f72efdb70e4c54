use Rattle.cip_ledger.proofs.Settled.{others-run}
use Rattle.cip_ledger.proofs.laws.others_leave_the_slot.Goals as goal

pub returns : goal.returns
returns g c = λ node requests originator others. others-run g.R.Router.after g.R.Router.answer g.R.Target.standing requests node originator others
