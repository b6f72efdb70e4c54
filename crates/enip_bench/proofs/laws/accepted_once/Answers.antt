use Rattle.enip_bench.proofs.AnswerLemmas.{accepted, accepted_order}
use Rattle.enip_bench.proofs.laws.accepted_once.Goals as goal

pub returns-clause-reply : goal.returns-clause-reply
returns-clause-reply g c form written = accepted g.R.Router.after g.R.Router.answer written form.begins form.within

pub returns-clause-order : goal.returns-clause-order
returns-clause-order g c form written =
    accepted_order g.R.Router.after g.R.Router.answer written form.begins form.within
