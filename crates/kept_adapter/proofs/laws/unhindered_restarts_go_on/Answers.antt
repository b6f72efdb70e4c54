use Rattle.kept_adapter.proofs.Unhindered.{no_hindrance, unhindered_goes_on}
use Rattle.kept_adapter.proofs.laws.unhindered_restarts_go_on.Goals as goal

pub returns-clause-fit : goal.returns-clause-fit
returns-clause-fit c = no_hindrance

pub returns-clause-go_on : goal.returns-clause-go_on
returns-clause-go_on c = unhindered_goes_on
