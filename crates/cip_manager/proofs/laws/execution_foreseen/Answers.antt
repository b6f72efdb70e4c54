use Rattle.cip_manager.proofs.ItemLemmas.{item_turn-executes}
use Rattle.cip_manager.proofs.laws.execution_foreseen.Goals as goal

pub returns-clause-executed : goal.returns-clause-executed
returns-clause-executed g c = λ cs now session id bytes router. (item_turn-executes g.R.Router.after g.R.Router.answer cs now session id bytes router).0

pub returns-clause-not_executed : goal.returns-clause-not_executed
returns-clause-not_executed g c = λ cs now session id bytes router. (item_turn-executes g.R.Router.after g.R.Router.answer cs now session id bytes router).1
