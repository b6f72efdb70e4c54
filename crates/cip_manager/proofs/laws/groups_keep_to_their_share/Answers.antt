use Rattle.cip_manager.proofs.ShareLemmas.{groups-within}
use Rattle.cip_manager.proofs.laws.groups_keep_to_their_share.Goals as goal

pub returns : goal.returns
returns g c = groups-within g.R.Router.after g.R.Router.answer
