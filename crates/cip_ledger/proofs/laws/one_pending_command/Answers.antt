use Rattle.cip_ledger.proofs.OnePending.{executed-ends, not-taken, keeps-slot}
use Rattle.cip_ledger.proofs.laws.one_pending_command.Goals as goal

pub returns-clause-executed : goal.returns-clause-executed
returns-clause-executed g c = executed-ends g.R.Router.after g.R.Router.answer g.R.Target.standing

pub returns-clause-refused : goal.returns-clause-refused
returns-clause-refused g c = not-taken g.R.Router.after g.R.Router.answer g.R.Target.standing

pub returns-clause-kept : goal.returns-clause-kept
returns-clause-kept g c = keeps-slot g.R.Router.after g.R.Router.answer g.R.Target.standing
