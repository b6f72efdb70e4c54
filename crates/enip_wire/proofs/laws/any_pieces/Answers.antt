use Rattle.std.proofs.Common.{arith}
use Rattle.enip_wire.proofs.StreamLemmas.{any_pieces_lem, not_empty}
use Rattle.enip_wire.proofs.laws.any_pieces.Goals as goal

pub returns : goal.returns
returns c pieces frames rest reads = any_pieces_lem reads (record { running = λ k h. absurd (omega arith) }) not_empty
