use Rattle.enip_reconnect.proofs.Journals.{log-journal}
use Rattle.enip_reconnect.proofs.commander_laws.log_is_the_journal.Goals as goal

pub returns : goal.returns
returns g c = λ opening events final range others. log-journal g.R.Router.after g.R.Router.answer g.R.Target.standing opening range events final others
