use Rattle.enip_bench.proofs.AnswerLemmas.{answered, same_bytes}
use Rattle.enip_bench.proofs.laws.answered_alike.Goals as goal

pub returns-clause-reply : goal.returns-clause-reply
returns-clause-reply g c form written = answered g.R.Router.after g.R.Router.answer written form.begins form.within

pub returns-clause-same_bytes : goal.returns-clause-same_bytes
returns-clause-same_bytes g c form written =
    same_bytes g.R.Router.after g.R.Router.answer written form.begins form.within
