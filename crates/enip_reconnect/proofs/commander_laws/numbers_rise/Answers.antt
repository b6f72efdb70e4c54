use Rattle.enip_reconnect.proofs.Logged.{after-logged}
use Rattle.enip_reconnect.proofs.commander_laws.numbers_rise.Goals as goal

pub returns : goal.returns
returns g c = λ opening events. (after-logged g.R.Router.after g.R.Router.answer g.R.Target.standing opening events).rises
