use Rattle.enip_bench.proofs.AgreementLemmas.{worlds_agree}
use Rattle.enip_bench.proofs.laws.worlds_agree.Goals as goal

pub returns : goal.returns
returns g c form written = worlds_agree g.R.Router.after g.R.Router.answer written form.begins form.within
