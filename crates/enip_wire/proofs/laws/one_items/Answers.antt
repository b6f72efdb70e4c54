use Rattle.enip_wire.proofs.ItemLemmas.{one_items_lem}
use Rattle.enip_wire.proofs.laws.one_items.Goals as goal

pub returns : goal.returns
returns c = one_items_lem
