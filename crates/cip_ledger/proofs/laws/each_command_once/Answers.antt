use Rattle.cip_ledger.specs.Runs.{journal}
use Rattle.cip_ledger.proofs.Settled.{journal-rises}
use Rattle.cip_ledger.proofs.Answered.{rises-apart}
use Rattle.cip_ledger.proofs.laws.each_command_once.Goals as goal

pub returns : goal.returns
returns g c = λ node requests. rises-apart (journal g.R.Router.after g.R.Router.answer g.R.Target.standing node requests) (journal-rises g.R.Router.after g.R.Router.answer g.R.Target.standing requests node)
