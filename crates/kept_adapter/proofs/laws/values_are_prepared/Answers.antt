use Rattle.kept_adapter.proofs.PreparedValues.{prepared_values}
use Rattle.kept_adapter.proofs.laws.values_are_prepared.Goals as goal

pub returns : goal.returns
returns c = prepared_values
