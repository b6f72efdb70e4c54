use Rattle.cip_manager.proofs.SessionLemmas.{calls-are_spared}
use Rattle.cip_manager.proofs.laws.connections_apart.Goals as goal

pub returns : goal.returns
returns g c = calls-are_spared g.R.Router.after g.R.Router.answer
