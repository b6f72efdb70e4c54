use Rattle.enip_adapter.proofs.CutLemmas.{cuts-answers, cuts-adapter, some-pour}
use Rattle.enip_adapter.proofs.laws.cuts_change_nothing.Goals as goal

pub returns-clause-answers : goal.returns-clause-answers
returns-clause-answers c = cuts-answers

pub returns-clause-adapter : goal.returns-clause-adapter
returns-clause-adapter c = cuts-adapter

pub returns-clause-some : goal.returns-clause-some
returns-clause-some c = some-pour
