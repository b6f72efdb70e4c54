use Rattle.enip_adapter.proofs.NumberLemmas.{ids-rise}
use Rattle.enip_adapter.proofs.laws.ids_rise.Goals as goal

pub returns : goal.returns
returns c = ids-rise
