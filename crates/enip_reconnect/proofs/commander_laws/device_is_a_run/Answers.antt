use Rattle.enip_reconnect.specs.Worlds.{ends_at}
use Rattle.enip_reconnect.proofs.Journals.{run-node}
use Rattle.enip_reconnect.proofs.commander_laws.device_is_a_run.Goals as goal

pub returns : goal.returns
returns g c = λ opening events. run-node g.R.Router.after g.R.Router.answer g.R.Target.standing events (ends_at opening)
