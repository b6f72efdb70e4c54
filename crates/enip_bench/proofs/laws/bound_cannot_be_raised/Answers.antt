use Rattle.enip_bench.proofs.BoundLemmas.{raised}
use Rattle.enip_bench.proofs.laws.bound_cannot_be_raised.Goals as goal

pub returns : goal.returns
returns g c form written = raised g.R.Router.after g.R.Router.answer written form.begins form.within
