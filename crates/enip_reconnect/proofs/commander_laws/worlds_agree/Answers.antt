use Rattle.enip_reconnect.proofs.Images.{worlds-agree}
use Rattle.enip_reconnect.proofs.commander_laws.worlds_agree.Goals as goal

pub returns : goal.returns
returns g c = λ opening events final range others. worlds-agree g.R.Router.after g.R.Router.answer g.R.Target.standing opening range events final others
