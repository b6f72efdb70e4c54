use Rattle.enip_wire.proofs.PieceLemmas.{some_cut_lem}
use Rattle.enip_wire.proofs.laws.some_cut.Goals as goal

pub returns : goal.returns
returns c = some_cut_lem
