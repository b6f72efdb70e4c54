use Rattle.enip_wire.proofs.WriteLemmas.{items_again}
use Rattle.enip_wire.proofs.laws.items_read_again.Goals as goal

pub returns : goal.returns
returns c = items_again
