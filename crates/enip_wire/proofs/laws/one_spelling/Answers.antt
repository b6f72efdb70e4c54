use Rattle.enip_wire.proofs.StreamLemmas.{one_spelling_lem}
use Rattle.enip_wire.proofs.laws.one_spelling.Goals as goal

pub returns : goal.returns
returns c = one_spelling_lem
