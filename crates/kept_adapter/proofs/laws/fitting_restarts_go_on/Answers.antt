use Rattle.kept_adapter.proofs.Fitting.{fitting_ledger, fitting_queue}
use Rattle.kept_adapter.proofs.laws.fitting_restarts_go_on.Goals as goal

pub returns-clause-ledger : goal.returns-clause-ledger
returns-clause-ledger c = fitting_ledger

pub returns-clause-queue : goal.returns-clause-queue
returns-clause-queue c = fitting_queue
