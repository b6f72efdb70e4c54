use Rattle.enip_adapter.proofs.NumberLemmas.{handles-rise}
use Rattle.enip_adapter.proofs.laws.handles_rise.Goals as goal

pub returns : goal.returns
returns c = handles-rise
