use Rattle.enip_reconnect.proofs.Losses.{amount_to_losses}
use Rattle.enip_reconnect.proofs.crash_laws.crashes_amount_to_losses.Goals as goal

pub returns : goal.returns
returns g c = amount_to_losses g.R.Router.after g.R.Router.answer g.R.Target.standing
