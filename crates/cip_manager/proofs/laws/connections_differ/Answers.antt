use Rattle.cip_manager.proofs.IdLemmas.{connections-apart}
use Rattle.cip_manager.proofs.laws.connections_differ.Goals as goal

pub returns : goal.returns
returns g c = connections-apart g.R.Router.after g.R.Router.answer
