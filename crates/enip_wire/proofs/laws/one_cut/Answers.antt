use Rattle.enip_wire.proofs.StreamLemmas.{one_cut_lem}
use Rattle.enip_wire.proofs.laws.one_cut.Goals as goal

pub returns : goal.returns
returns c = one_cut_lem
