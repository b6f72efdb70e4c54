use Rattle.owner_port.proofs.SetLemmas.{own_write}
use Rattle.owner_port.proofs.laws.own_writes_are_no_sets.Goals as goal

pub returns : goal.returns
returns c = own_write
