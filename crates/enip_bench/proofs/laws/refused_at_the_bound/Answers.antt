use Rattle.enip_bench.proofs.BoundLemmas.{bound, refusals_agree}
use Rattle.enip_bench.proofs.laws.refused_at_the_bound.Goals as goal

pub returns-clause-bound : goal.returns-clause-bound
returns-clause-bound g c = bound

pub returns-clause-refusals : goal.returns-clause-refusals
returns-clause-refusals g c form written =
    refusals_agree g.R.Router.after g.R.Router.answer written form.begins form.within
