use Rattle.kept_adapter.specs.Restarts.{sizes_of}
use Rattle.kept_adapter.proofs.LifeLemmas.{go_on, queue_end}
use Rattle.kept_adapter.proofs.Restarted.{queue_goes_on, queue_or_new}
use Rattle.kept_adapter.proofs.laws.queue_goes_on.Goals as goal

pub returns-clause-same : goal.returns-clause-same
returns-clause-same c = queue_goes_on

pub returns-clause-any : goal.returns-clause-any
returns-clause-any c = queue_or_new

pub returns-clause-steps : goal.returns-clause-steps
returns-clause-steps c = λ device steps on. queue_end (sizes_of device) device steps (go_on device steps on)
