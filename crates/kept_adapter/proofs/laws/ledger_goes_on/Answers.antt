use Rattle.std.proofs.Common.{refl}
use Rattle.kept_adapter.proofs.Restarted.{goes_on, ledger_after}
use Rattle.kept_adapter.proofs.laws.ledger_goes_on.Goals as goal

pub returns-clause-adapter : goal.returns-clause-adapter
returns-clause-adapter c = λ start a. refl

pub returns-clause-same : goal.returns-clause-same
returns-clause-same c = goes_on

pub returns-clause-any : goal.returns-clause-any
returns-clause-any c = ledger_after
