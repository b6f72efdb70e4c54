use Rattle.cip_ledger.proofs.Executions.{of-execution, of-final_execution}
use Rattle.cip_ledger.proofs.laws.reply_of_execution.Goals as goal

pub returns-clause-any : goal.returns-clause-any
returns-clause-any g c = of-execution g.R.Router.after g.R.Router.answer g.R.Target.standing

pub returns-clause-unqueued : goal.returns-clause-unqueued
returns-clause-unqueued g c = of-final_execution g.R.Router.after g.R.Router.answer g.R.Target.standing
