use Rattle.enip_wire.proofs.WriteLemmas.{rr_spelled, rr_again}
use Rattle.enip_wire.proofs.laws.rr_body_read_again.Goals as goal

pub returns-clause-spelled : goal.returns-clause-spelled
returns-clause-spelled c = rr_spelled

pub returns-clause-again : goal.returns-clause-again
returns-clause-again c = rr_again
