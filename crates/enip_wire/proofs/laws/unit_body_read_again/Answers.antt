use Rattle.enip_wire.proofs.WriteLemmas.{unit_spelled, unit_again}
use Rattle.enip_wire.proofs.laws.unit_body_read_again.Goals as goal

pub returns-clause-spelled : goal.returns-clause-spelled
returns-clause-spelled c = unit_spelled

pub returns-clause-again : goal.returns-clause-again
returns-clause-again c = unit_again
