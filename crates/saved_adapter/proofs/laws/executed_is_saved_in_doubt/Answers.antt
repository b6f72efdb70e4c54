use Rattle.saved_adapter.proofs.DoubtLemmas.{in_doubt}
use Rattle.saved_adapter.proofs.laws.executed_is_saved_in_doubt.Goals as goal

pub returns : goal.returns
returns c = in_doubt
