use Rattle.cip_class3.proofs.Repeats.{router_after-items_of, answers_to-items_of}
use Rattle.cip_class3.proofs.laws.each_request_once.Goals as goal

pub returns-clause-once : goal.returns-clause-once
returns-clause-once g c = router_after-items_of g.R.Router.after g.R.Router.answer

pub returns-clause-same_bytes : goal.returns-clause-same_bytes
returns-clause-same_bytes g c = answers_to-items_of g.R.Router.after g.R.Router.answer
