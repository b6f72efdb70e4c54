use Rattle.cip_manager.proofs.IdLemmas.{counts-ids_drawn}
use Rattle.cip_manager.proofs.laws.ids_rise.Goals as goal

pub returns : goal.returns
returns g c = counts-ids_drawn g.R.Router.after g.R.Router.answer
