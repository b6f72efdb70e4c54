use Rattle.kept_adapter.proofs.ValuesBack.{values_go_on, others_begin_again}
use Rattle.kept_adapter.proofs.ValuesStay.{calls_values}
use Rattle.kept_adapter.proofs.laws.values_go_on.Goals as goal

pub returns-clause-kept : goal.returns-clause-kept
returns-clause-kept c = values_go_on

pub returns-clause-others : goal.returns-clause-others
returns-clause-others c = others_begin_again

pub returns-clause-stay : goal.returns-clause-stay
returns-clause-stay c = calls_values
