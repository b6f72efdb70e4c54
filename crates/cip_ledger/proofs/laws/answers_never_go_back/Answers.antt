use Rattle.cip_ledger.proofs.Pendings.{never-back, done-stays, one-result}
use Rattle.cip_ledger.proofs.laws.answers_never_go_back.Goals as goal

pub returns-clause-answers : goal.returns-clause-answers
returns-clause-answers g c = never-back g.R.Router.after g.R.Router.answer g.R.Target.standing

pub returns-clause-done : goal.returns-clause-done
returns-clause-done g c = done-stays

pub returns-clause-pending : goal.returns-clause-pending
returns-clause-pending g c = one-result
