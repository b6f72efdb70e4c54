use Rattle.enip_reconnect.proofs.Numbered.{after-numbered}
use Rattle.enip_reconnect.proofs.commander_laws.executed_as_given.Goals as goal

pub returns : goal.returns
returns g c = λ opening events.
    let is = after-numbered g.R.Router.after g.R.Router.answer g.R.Target.standing opening events in
    (is.given.rises, is.log)
