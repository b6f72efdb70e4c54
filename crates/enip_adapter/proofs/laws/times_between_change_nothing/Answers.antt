use Rattle.enip_adapter.proofs.TimedCutLemmas.{timed-answers, timed-adapter, some-timed}
use Rattle.enip_adapter.proofs.laws.times_between_change_nothing.Goals as goal

pub returns-clause-answers : goal.returns-clause-answers
returns-clause-answers c = timed-answers

pub returns-clause-adapter : goal.returns-clause-adapter
returns-clause-adapter c = timed-adapter

pub returns-clause-some : goal.returns-clause-some
returns-clause-some c = some-timed
