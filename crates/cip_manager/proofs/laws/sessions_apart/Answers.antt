use Rattle.cip_manager.proofs.SessionLemmas.{calls-of_other}
use Rattle.cip_manager.proofs.laws.sessions_apart.Goals as goal

pub returns : goal.returns
returns g c = calls-of_other g.R.Router.after g.R.Router.answer
