use Rattle.enip_wire.proofs.PieceLemmas.{some_reading_lem}
use Rattle.enip_wire.proofs.laws.some_reading.Goals as goal

pub returns : goal.returns
returns c = some_reading_lem
